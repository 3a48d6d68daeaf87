-- Which pages cores have in hand after a step by which one of them prepares a page.
use Rattle.std.specs.Prelude.{◌≡◌, ◌≢◌, ◌↔◌, ℕ, ◌<◌, Bool, true, false, List, Option, Some, None, if◌then◌else◌, length, slice_set, slice_index_or}
use Rattle.std.proofs.Common.{refl, ap, sym, ◌∙◌, subst, inl, inr}
use Rattle.std.proofs.lemmas.Bool.{cases_eq}
use Rattle.std.proofs.lemmas.Grind.{get_or-set_at}
use Rattle.std.proofs.lemmas.List.{get_or-set_other}
use Rattle.sls_base.specs.declared.limits.TheConstants.{PAGES}
use Rattle.page_store.specs.declared.stage.PageState.TheVariants.{Preparing, Writable}
use Rattle.page_store.specs.Stages.{stage_of, state_at, state_of}
use Rattle.cow_fault.specs.Faults.{MayFault, faulted}
use Rattle.plain_state.specs.Worlds.{World}
use Rattle.core_turns.specs.declared.running.Running.{Running}
use Rattle.core_turns.specs.Runs.{ArePrepared, prepared_by}
use Rattle.core_turns.specs.Turns.{IsWritable, MayPrepare, OthersStay}
use Rattle.core_turns.proofs.Faulting.{holder_after, holder_before, in_hand_after}

-- the page that a core has in hand after its step
abbrev pub hand_after : Bool → ℕ → Option ℕ
hand_after done page = if done then None else Some page

-- a step of a page by a core, as the rooms and the cores' hands tell of it
pub record TakesStep (k n : Running) (core page : ℕ) (done : Bool) : Type 0 where
  pub in_range : page < PAGES
  pub may : MayFault (state_of k.rooms.pages page) core
  pub stage : stage_of n.rooms.pages page ≡ faulted (stage_of k.rooms.pages page) core
  pub stages : (other : ℕ) → other ≢ page → stage_of n.rooms.pages other ≡ stage_of k.rooms.pages other
  pub last : (done ≡ true) ↔ IsWritable n page
  pub size : core < length k.prepares
  pub hands : n.prepares ≡ slice_set k.prepares core (hand_after done page)

done_hand : (done : Bool) (page : ℕ) → done ≡ true → hand_after done page ≡ None
done_hand done page e = ap (λ (b : Bool). hand_after b page) e

page_in_hand : (done : Bool) (page other : ℕ) → hand_after done page ≡ Some other → (done ≡ false) × (other ≡ page)
page_in_hand true page other e = absurd (cc)
page_in_hand false page other e = (refl, let same : page ≡ other = cc in sym same)

module _ (k n : Running) (core page : ℕ) (done : Bool) (is : TakesStep k n core page done) where
  pub own_hand : prepared_by n core ≡ hand_after done page
  own_hand =
      ap (λ (hands : List (Option ℕ)). slice_index_or hands core None) is.hands
      ∙ get_or-set_at k.prepares core core (hand_after done page) None refl is.size

  pub others_stay : OthersStay k n core
  others_stay other apart =
      ap (λ (hands : List (Option ℕ)). slice_index_or hands other None) is.hands
      ∙ get_or-set_other k.prepares core other (hand_after done page) None apart

  pub done_then : IsWritable n page → prepared_by n core ≡ None
  done_then writable = own_hand ∙ done_hand done page (is.last.1 writable)

  not_done : (b : Bool) → done ≡ b → (IsWritable n page → ⊥) → b ≡ false
  not_done false e not_yet = refl
  not_done true e not_yet = absurd (not_yet (is.last.0 e))

  pub goes_on_then : (IsWritable n page → ⊥) → prepared_by n core ≡ Some page
  goes_on_then not_yet = own_hand ∙ ap (λ (b : Bool). hand_after b page) (not_done done refl not_yet)

  state_now : state_of n.rooms.pages page ≡ state_at (faulted (stage_of k.rooms.pages page) core)
  state_now = ap state_at is.stage

  state_other : (other : ℕ) → other ≢ page → state_of n.rooms.pages other ≡ state_of k.rooms.pages other
  state_other other apart = ap state_at (is.stages other apart)

  pub hand_in_range : ((c other : ℕ) → prepared_by k c ≡ Some other → other < PAGES)
      → (c other : ℕ) → prepared_by n c ≡ Some other → other < PAGES
  hand_in_range before c other e = elim (cases_eq c core) [
    | inl here ↦
        let own : hand_after done page ≡ Some other = sym own_hand ∙ ap (prepared_by n) (sym here) ∙ e in
        subst (λ (p : ℕ). p < PAGES) (sym (page_in_hand done page other own).1) is.in_range
    | inr apart ↦ before c other (sym (others_stay c apart) ∙ e)
  ]

  module _ (before : ArePrepared k) where
    -- The room of the page that the step is of.

    told_here : (c : ℕ) → prepared_by n c ≡ Some page → state_of n.rooms.pages page ≡ Preparing c
    told_here c e = elim (cases_eq c core) [
      | inl here ↦
          let own : hand_after done page ≡ Some page = sym own_hand ∙ ap (prepared_by n) (sym here) ∙ e in
          let yet : done ≡ false = (page_in_hand done page page own).0 in
          let not_yet : state_at (faulted (stage_of k.rooms.pages page) core) ≡ Writable → ⊥ =
          λ w. (let no : true ≡ false = sym (is.last.1 (state_now ∙ w)) ∙ yet in cc) in
          state_now ∙ in_hand_after (stage_of k.rooms.pages page) core is.may not_yet ∙ ap Preparing (sym here)
      | inr apart ↦
          absurd (apart (holder_before (state_of k.rooms.pages page) core c is.may
          ((before c page is.in_range).0 (sym (others_stay c apart) ∙ e))))
    ]

    held_here : (c : ℕ) → state_of n.rooms.pages page ≡ Preparing c → prepared_by n c ≡ Some page
    held_here c e =
        let here : c ≡ core = holder_after (stage_of k.rooms.pages page) core c is.may (sym state_now ∙ e) in
        ap (prepared_by n) here ∙ goes_on_then (λ w. (let no : Writable ≡ Preparing c = sym w ∙ e in cc))

    -- The room of another page.

    module _ (alone : (other : ℕ) → prepared_by k core ≡ Some other → other ≡ page) where
      told_other : (c other : ℕ) → other < PAGES → other ≢ page → prepared_by n c ≡ Some other
          → state_of n.rooms.pages other ≡ Preparing c
      told_other c other below ne e = elim (cases_eq c core) [
        | inl here ↦
            let own : hand_after done page ≡ Some other = sym own_hand ∙ ap (prepared_by n) (sym here) ∙ e in
            absurd (ne (page_in_hand done page other own).1)
        | inr apart ↦ state_other other ne ∙ (before c other below).0 (sym (others_stay c apart) ∙ e)
      ]

      held_other : (c other : ℕ) → other < PAGES → other ≢ page → state_of n.rooms.pages other ≡ Preparing c
          → prepared_by n c ≡ Some other
      held_other c other below ne e =
          let had : prepared_by k c ≡ Some other = (before c other below).1 (sym (state_other other ne) ∙ e) in
          elim (cases_eq c core) [
            | inl here ↦ absurd (ne (alone other (ap (prepared_by k) (sym here) ∙ had)))
            | inr apart ↦ others_stay c apart ∙ had
          ]

      pub still_prepared : ArePrepared n
      still_prepared c other below = elim (cases_eq other page) [
        | inl here ↦
            subst (λ (p : ℕ). (prepared_by n c ≡ Some p) ↔ (state_of n.rooms.pages p ≡ Preparing c)) (sym here)
            (told_here c, held_here c)
        | inr apart ↦ (told_other c other below apart, held_other c other below apart)
      ]

-- A core that may prepare a page has no other in hand.
pub hand_alone : (k : Running) (w : World) (core page : ℕ) → MayPrepare k w core page
    → (other : ℕ) → prepared_by k core ≡ Some other → other ≡ page
hand_alone k w core page (inl has) other e = (let same : Some other ≡ Some page = sym e ∙ has in cc)
hand_alone k w core page (inr begins) other e =
    absurd (let none : Some other ≡ None = sym e ∙ begins.free in cc)
