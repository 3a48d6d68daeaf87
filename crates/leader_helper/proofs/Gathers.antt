-- What is kept while the leader waits for the cores that prepare a page.
use Rattle.std.specs.Prelude.{◌≡◌, ◌≢◌, ◌+◌, ◌<◌, ℕ}
use Rattle.std.proofs.Common.{◌∙◌, ap, arith, inl, inr, refl, subst, sym}
use Rattle.std.proofs.lemmas.Bool.{cases_eq}
use Rattle.sls_base.specs.declared.limits.TheConstants.{PAGES}
use Rattle.pmem_model.specs.Words.{Word}
use Rattle.alloc_journal.proofs.SetLemmas.{count_same}
use Rattle.page_store.specs.declared.stage.PageStage.{PageStage}
use Rattle.page_store.specs.declared.stage.PageStage.TheVariants.{Fresh, Protected, Preparing, Writable}
use Rattle.page_store.specs.declared.stage.Preparation.TheVariants.{FlushCopy, FenceCopy, StoreTag, FlushTag, FenceTag}
use Rattle.page_store.specs.declared.store.PageStore.{PageStore}
use Rattle.page_store.specs.Known.{Open}
use Rattle.page_store.specs.Stages.{stage_of, IsSettled}
use Rattle.cow_fault.specs.Faults.{faulted}
use Rattle.version_rooms.specs.declared.rooms.Rooms.{Rooms}
use Rattle.version_rooms.specs.Rooms.{Contents, RoomsShow}
use Rattle.leader_helper.specs.declared.leader.Leader.{Leader}
use Rattle.leader_helper.specs.declared.stage.Stage.{Stage}
use Rattle.leader_helper.specs.declared.stage.Stage.TheVariants as at
use Rattle.leader_helper.specs.Leads.{is_changed, IsWriting}
use Rattle.leader_helper.specs.Turns.{is_to_flush, is_unflushed, pages_left, records_left, turns_from_log, turns_left}
use Rattle.leader_helper.proofs.RecordSteps.{done_on}
use Rattle.leader_helper.proofs.Turned.{log_as_many, turns_now}
use Rattle.leader_helper.proofs.Writing.{at_stage}

-- no step of a fault is a store
pub fault_unflushed : (stage : PageStage) (core : ℕ) → is_unflushed (faulted stage core) ≡ is_unflushed stage
fault_unflushed Fresh core = refl
fault_unflushed Protected core = refl
fault_unflushed (Preparing c FlushCopy) core = refl
fault_unflushed (Preparing c FenceCopy) core = refl
fault_unflushed (Preparing c StoreTag) core = refl
fault_unflushed (Preparing c FlushTag) core = refl
fault_unflushed (Preparing c FenceTag) core = refl
fault_unflushed (Writable origin writes) core = refl

-- whatever becomes of the pages, the next version is being written still
pub pages_gathered : {l : Leader} {r : Rooms} {f g : ℕ → Word} {v : ℕ} {c : Contents} (pages : PageStore)
    → l.stage ≡ at.Gather → RoomsShow (record r { pages = pages }) g v c Open → IsWriting l r f v c
    → IsWriting l (record r { pages = pages }) g v c
pages_gathered {l} {r} {f} {g} {v} {c} pages e shows h =
    let w = at_stage at.Gather e h in
    let still : IsWriting (record l { stage = at.Gather }) (record r { pages = pages }) g v c = record {
      before = refl;
      in_range = w.in_range;
      shows = shows;
      rest = w.rest;
      pages = λ i lt. tt;
      phase = w.phase;
      records = w.records;
      log = w.log;
    } in
    subst (λ (s : Stage). IsWriting (record l { stage = s }) (record r { pages = pages }) g v c) (sym e) still

gathered_then : (a b x y z : ℕ) → a ≡ b → y ≡ z → a + 1 + x + y ≡ b + 1 + x + z
gathered_then a b x y z e same = omega (arith, e, same)

pub fault_left : (l : Leader) (r : Rooms) (pages : PageStore) (page core : ℕ) → l.stage ≡ at.Gather
    → stage_of pages page ≡ faulted (stage_of r.pages page) core
    → ((i : ℕ) → i ≢ page → stage_of pages i ≡ stage_of r.pages i)
    → turns_left l (record r { pages = pages }) ≡ turns_left l r
fault_left l r pages page core e here others =
    let s : Rooms = record r { pages = pages } in
    let flush : pages_left s ≡ pages_left r =
    count_same (is_to_flush r) (is_to_flush s) PAGES (λ i lt. elim (cases_eq i page) [
      | inl same ↦
          ap (λ (k : ℕ). is_unflushed (stage_of pages k)) same ∙ ap is_unflushed here ∙ fault_unflushed (stage_of r.pages page) core
          ∙ ap (λ (k : ℕ). is_unflushed (stage_of r.pages k)) (sym same)
      | inr other ↦ ap is_unflushed (others i other)
    ]) in
    turns_now l s at.Gather e
    ∙ gathered_then (pages_left s) (pages_left r) (records_left l r) (turns_from_log l s) (turns_from_log l r) flush (sym (log_as_many l r pages))
    ∙ sym (turns_now l r at.Gather e)

-- once no core prepares a page, the first page is taken up
pub gathered : {l : Leader} {r : Rooms} {f : ℕ → Word} {v : ℕ} {c : Contents} → l.stage ≡ at.Gather
    → ((page : ℕ) → page < PAGES → IsSettled (stage_of r.pages page)) → IsWriting l r f v c
    → IsWriting (record l { stage = at.Pages 0 }) r f v c
gathered {l} {r} {f} {v} {c} e settled h =
    let w = at_stage at.Gather e h in
    record {
      before = refl;
      in_range = w.in_range;
      shows = w.shows;
      rest = λ other. w.rest (λ same. cc);
      pages = λ page inside. (settled page inside, λ below. absurd (omega (arith, below)));
      phase = w.phase;
      records = λ id lt. done_on (is_changed l id) id at.Gather (at.Pages 0) _ _ _ _ (λ set idle. idle) (λ clear. refl) (w.records id lt);
      log = w.log;
    }

pub gathered_turns : (l : Leader) (r : Rooms) → l.stage ≡ at.Gather
    → turns_left l r ≡ turns_left (record l { stage = at.Pages 0 }) r
gathered_turns l r e = turns_now l r at.Gather e
