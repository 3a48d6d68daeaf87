-- Each word in flight for a core stays among those that it has flushed.
use Rattle.std.proofs.Common.{◌≡◌, ◌≢◌, ℕ, ◌+◌, ◌<◌, Bool, true, false, cond, refl, sym, ◌∙◌, arith, List, length, get_or, get_or-set_same, get_or-set_other, length-set, Option, Some, None, is_some, ⊎_elim}
use Rattle.std.proofs.Math.ListN.{set}
use Rattle.std.proofs.lemmas.Bool.{cases_eq}
use Rattle.pmem_model.specs.declared.flushes.Flushes.{Flushes}
use Rattle.pmem_model.specs.Flushes.{may_be_flushed}
use Rattle.pmem_model.specs.Kept.{IsSound}
use Rattle.pmem_model.specs.Places.{word_among, bank_at, AreBanks, bank_of, offset_of, bank_start}
use Rattle.sls_base.specs.declared.limits.TheConstants.{FRAMES}
use Rattle.std.proofs.lemmas.List.{get_or_default}
use Rattle.std.proofs.lemmas.Bool.Decides.{nat_tests}
use Rattle.pmem_model.proofs.PlaceLemmas.{frame_size, place_sum, offset_of_lt}
use Rattle.pmem_model.specs.Words.{Word, BankWords, word_in, bank_len, stored, flushed, fenced, written_back, lost, has_core, is_within}
use Rattle.pmem_model.specs.Marks.{zero_has, has-with_other, fenced-has, fenced-has_other}

-- a word that is marked for a core after its flush was flushed now or marked before
flush_same : (core : ℕ) (inside : Bool) (v w : Word) (P : Type 0) → v ≡ cond inside (flushed core w) w
    → (inside ≡ true → P) → (has_core w.marks core ≡ true → P) → has_core v.marks core ≡ true → P
flush_same core true v w P is now before has = now refl
flush_same core false v w P is now before has = before (rw is at has)

-- a word that is marked for another core was marked before
flush_other : (core other : ℕ) (inside : Bool) (v w : Word) → v ≡ cond inside (flushed core w) w → other ≢ core
    → has_core v.marks other ≡ true → has_core w.marks other ≡ true
flush_other core other true v w is ne has = let e = has-with_other w.marks core other ne in let h = rw is at has in sym e ∙ h
flush_other core other false v w is ne has = rw is at has

pub sound_after_flush : (banks after : List (Option BankWords)) (flushes : List Flushes) (e g : Flushes) (core at n : ℕ)
    → IsSound banks flushes → AreBanks after → core < 8
    → ((k : ℕ) → is_some (bank_at after k) ≡ is_some (bank_at banks k))
    → ((i : ℕ) → word_among after i ≡ cond (is_within at n i) (flushed core (word_among banks i)) (word_among banks i))
    → ((i : ℕ) → may_be_flushed (get_or flushes core e) i ≡ true → may_be_flushed g i ≡ true)
    → ((i : ℕ) → is_within at n i ≡ true → may_be_flushed g i ≡ true)
    → IsSound after (set flushes core g)
sound_after_flush banks after flushes e g core at n sound sized lt home words had added =
    let long : core < length flushes = omega (arith, sound.cores) in
    record {
      banks_sized = sized;
      table = home 0 ∙ sound.table;
      cores = length-set flushes core g ∙ sound.cores;
      flushed = λ other i d small has.
          ⊎_elim
          (λ (same : other ≡ core).
          rw (same, get_or-set_same flushes core g d long)
          (flush_same core (is_within at n i) (word_among after i) (word_among banks i) (may_be_flushed g i ≡ true) (words i) (added i)
          (λ was. had i (sound.flushed core i e lt was))
          (rw same at has)))
          (λ (ne : other ≢ core).
          rw (get_or-set_other flushes core other g d ne)
          (sound.flushed other i d small (flush_other core other (is_within at n i) (word_among after i) (word_among banks i) (words i) ne has)))
          (cases_eq other core);
    }

pub sound_after_fence : (banks after : List (Option BankWords)) (flushes : List Flushes) (g : Flushes) (core : ℕ)
    → IsSound banks flushes → AreBanks after → core < 8
    → ((k : ℕ) → is_some (bank_at after k) ≡ is_some (bank_at banks k))
    → ((i : ℕ) → word_among after i ≡ fenced core (word_among banks i))
    → IsSound after (set flushes core g)
sound_after_fence banks after flushes g core sound sized lt home words =
    record {
      banks_sized = sized;
      table = home 0 ∙ sound.table;
      cores = length-set flushes core g ∙ sound.cores;
      flushed = λ other i d small has.
          ⊎_elim
          (λ (same : other ≡ core).
          absurd (let never = fenced-has core (word_among banks i) in let yes = rw (same, words i) at has in cc (never, yes)))
          (λ (ne : other ≢ core).
          rw (get_or-set_other flushes core other g d ne)
          (sound.flushed other i d small (sym (fenced-has_other core other (word_among banks i) ne) ∙ (rw (words i) at has))))
          (cases_eq other core);
    }

-- a step of the loop over the cores
pub add_had : (initial flushes : List Flushes) (g : Flushes) (core : ℕ) (e : Flushes) → core < length flushes
    → ((i : ℕ) → may_be_flushed (get_or flushes core e) i ≡ true → may_be_flushed g i ≡ true)
    → ((other i : ℕ) (d : Flushes) → other < 8 → may_be_flushed (get_or initial other d) i ≡ true → may_be_flushed (get_or flushes other d) i ≡ true)
    → (other i : ℕ) (d : Flushes) → other < 8 → may_be_flushed (get_or initial other d) i ≡ true → may_be_flushed (get_or (set flushes core g) other d) i ≡ true
add_had initial flushes g core e lt had before other i d small has =
    ⊎_elim
    (λ (same : other ≡ core).
    let now = before other i d small has in let at = rw (same, get_or_default flushes core d e lt) at now in
    rw (same, get_or-set_same flushes core g d lt) (had i at))
    (λ (ne : other ≢ core). rw (get_or-set_other flushes core other g d ne) (before other i d small has))
    (cases_eq other core)

pub add_added : (flushes : List Flushes) (g : Flushes) (core at marks : ℕ) → core < length flushes
    → ((i : ℕ) → has_core marks core ≡ true → is_within at 512 i ≡ true → may_be_flushed g i ≡ true)
    → ((other i : ℕ) (d : Flushes) → other < core → has_core marks other ≡ true → is_within at 512 i ≡ true → may_be_flushed (get_or flushes other d) i ≡ true)
    → (other i : ℕ) (d : Flushes) → other < core + 1 → has_core marks other ≡ true → is_within at 512 i ≡ true → may_be_flushed (get_or (set flushes core g) other d) i ≡ true
add_added flushes g core at marks lt added before other i d small has within =
    ⊎_elim
    (λ (same : other ≡ core). rw (same, get_or-set_same flushes core g d lt) (added i (rw same at has) within))
    (λ (ne : other ≢ core). rw (get_or-set_other flushes core other g d ne) (before other i d (omega arith) has within))
    (cases_eq other core)

-- a bank that was away comes back
pub sound_after_return : (banks : List (Option BankWords)) (flushes after : List Flushes) (frame marks : ℕ) (b : BankWords)
    → IsSound banks flushes → frame < FRAMES → bank_len b ≡ 512
    → length after ≡ 8
    → ((core i : ℕ) → has_core (word_in b i).marks core ≡ true → has_core marks core ≡ true)
    → ((core i : ℕ) (d : Flushes) → core < 8 → may_be_flushed (get_or flushes core d) i ≡ true → may_be_flushed (get_or after core d) i ≡ true)
    → ((core i : ℕ) (d : Flushes) → core < 8 → has_core marks core ≡ true → is_within (bank_start (1 + frame)) 512 i ≡ true → may_be_flushed (get_or after core d) i ≡ true)
    → IsSound (set banks (1 + frame) (Some b)) after
sound_after_return banks flushes after frame marks b sound small len cores all had added =
    let lt : 1 + frame < length banks = omega (arith, sound.banks_sized.count) in
    record {
      banks_sized = record {
        count = length-set banks (1 + frame) (Some b) ∙ sound.banks_sized.count;
        sizes = λ k. ⊎_elim
            (λ (same : k ≡ 1 + frame). rw (same, get_or-set_same banks (1 + frame) (Some b) None lt) (len ∙ sym (frame_size frame)))
            (λ (ne : k ≢ 1 + frame). rw (get_or-set_other banks (1 + frame) k (Some b) None ne) (sound.banks_sized.sizes k))
            (cases_eq k (1 + frame));
      };
      table = rw (get_or-set_other banks (1 + frame) 0 (Some b) None (omega arith)) sound.table;
      cores = cores;
      flushed = λ core i d below has. ⊎_elim
          (λ (same : bank_of i ≡ 1 + frame).
          let mark = rw (same, get_or-set_same banks (1 + frame) (Some b) None lt) at has in
          let sum = place_sum i in let less = offset_of_lt i in
          let inside : is_within (bank_start (1 + frame)) 512 i ≡ true = grind (arith, nat_tests, rw same at sum, rw same at less, frame_size frame) in
          added core i d below (all core (offset_of i) mark) inside)
          (λ (ne : bank_of i ≢ 1 + frame).
          had core i d below (sound.flushed core i d below (rw (get_or-set_other banks (1 + frame) (bank_of i) (Some b) None ne) at has)))
          (cases_eq (bank_of i) (1 + frame));
    }

-- an event after which no word is in flight for more cores
pub sound_after_less : (banks after : List (Option BankWords)) (flushes : List Flushes)
    → IsSound banks flushes → AreBanks after
    → ((k : ℕ) → is_some (bank_at after k) ≡ is_some (bank_at banks k))
    → ((core i : ℕ) → has_core (word_among after i).marks core ≡ true → has_core (word_among banks i).marks core ≡ true)
    → IsSound after flushes
sound_after_less banks after flushes sound sized home less = record {
  banks_sized = sized;
  table = home 0 ∙ sound.table;
  cores = sound.cores;
  flushed = λ core i d lt has. sound.flushed core i d lt (less core i has);
}

-- a burst takes marks away
pub less_stored : (inside : Bool) (x : ℕ) (v w : Word) (core : ℕ) → v ≡ cond inside (stored x w) w → has_core v.marks core ≡ true → has_core w.marks core ≡ true
less_stored true x v w core is has = absurd (let none = zero_has core in let h = rw is at has in cc)
less_stored false x v w core is has = rw is at has

-- a write-back leaves marks, and a cut takes all away
pub less_written : (inside : Bool) (v w : Word) (core : ℕ) → v ≡ cond inside (written_back w) w → has_core v.marks core ≡ true → has_core w.marks core ≡ true
less_written true v w core is has = rw is at has
less_written false v w core is has = rw is at has

pub less_lost : (v w : Word) (core : ℕ) → v ≡ lost w → has_core v.marks core ≡ true → has_core w.marks core ≡ true
less_lost v w core is has = absurd (let none = zero_has core in let h = rw is at has in cc)
