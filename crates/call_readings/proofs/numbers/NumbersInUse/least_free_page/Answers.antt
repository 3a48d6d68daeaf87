use Rattle.std.proofs.Common.{◌≡◌, ◌∙◌, ◌*◌, ℕ, Some, None, length, ap, arith, rules}
use Rattle.std.specs.Prelude.{find, not}
use Rattle.std.specs.List.{range_with_len}
use Rattle.plain_model.specs.Objects.{every_page}
use Rattle.plain_model.specs.Worlds.{free_pages, is_used_page}
use Rattle.call_readings.specs.NumberSets.{is_in}
use Rattle.call_readings.proofs.Members.{least_of_free}
use Rattle.call_readings.proofs.numbers.NumbersInUse.least_free_page.Goals as goal

pub returns-in-Some-clause-first : goal.returns-in-Some-clause-first
unfolding every_page
returns-in-Some-clause-first c =
    let words = c.args.self.now.pages in
    let all : 64 * length words ≡ 512 = omega arith in
    let least : Some c.in-Some.page ≡ find (λ number. not (is_in words number)) (range_with_len 0 (64 * length words)) = search rules in
    least ∙ ap (λ (n : ℕ). find (λ number. not (is_in words number)) (range_with_len 0 n)) all

pub returns-in-None-clause-first : goal.returns-in-None-clause-first
unfolding every_page
returns-in-None-clause-first c =
    let words = c.args.self.now.pages in
    let all : 64 * length words ≡ 512 = omega arith in
    let least : None ≡ find (λ number. not (is_in words number)) (range_with_len 0 (64 * length words)) = search rules in
    least ∙ ap (λ (n : ℕ). find (λ number. not (is_in words number)) (range_with_len 0 n)) all

pub returns-in-Some-clause-least : goal.returns-in-Some-clause-least
unfolding free_pages
returns-in-Some-clause-least c w counted =
    least_of_free c.args.self.now.pages (is_used_page w) every_page _ counted.pages (returns-in-Some-clause-first c)

pub returns-in-None-clause-least : goal.returns-in-None-clause-least
unfolding free_pages
returns-in-None-clause-least c w counted =
    least_of_free c.args.self.now.pages (is_used_page w) every_page _ counted.pages (returns-in-None-clause-first c)
