use Rattle.std.proofs.Common.{◌≡◌, ◌∙◌, ◌*◌, ℕ, length, ap, arith, rules}
use Rattle.std.specs.Prelude.{filter, not}
use Rattle.std.specs.List.{range_with_len}
use Rattle.plain_model.specs.Objects.{every_page}
use Rattle.plain_model.specs.Worlds.{free_pages, is_used_page}
use Rattle.call_readings.specs.NumberSets.{is_in}
use Rattle.call_readings.proofs.Members.{count_of_free}
use Rattle.call_readings.proofs.numbers.NumbersInUse.free_page_count.Goals as goal

pub returns : goal.returns
unfolding free_pages every_page
returns c w counted =
    let words = c.args.self.now.pages in
    let all : 64 * length words ≡ 512 = omega arith in
    let count : c.count_of_absent.result ≡ length (filter (λ number. not (is_in words number)) (range_with_len 0 (64 * length words))) = search rules in
    count_of_free words (is_used_page w) every_page _ counted.pages
    (count ∙ ap (λ (n : ℕ). length (filter (λ number. not (is_in words number)) (range_with_len 0 n))) all)
