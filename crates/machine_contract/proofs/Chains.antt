-- A play goes on by one event.
use Rattle.std.proofs.Common.{◌≡◌, ℕ, ◌+◌, ◌<◌, List, [], ◌∷◌, ◌++◌, length, take, drop, get_or, refl, sym, ap, ◌∙◌, subst, drop-cons, add-one, Option, Some, None}
use Rattle.std.proofs.lemmas.List.{take_more, take-append-drop}
use Rattle.sls_base.specs.declared.image.Image.{Image}
use Rattle.pmem_model.specs.Words.{cuts}
use Rattle.pmem_model.specs.Memory.{word_at}
use Rattle.pmem_layout.specs.declared.places.TheConstants.{FORMAT_AT}
use Rattle.plain_state.specs.declared.label.Label.{Label}
use Rattle.plain_state.specs.declared.label.Label.TheVariants as label
use Rattle.machine_contract.specs.declared.answers.Event.{Event}
use Rattle.machine_contract.specs.declared.answers.Event.TheVariants.{Cut}
use Rattle.machine_contract.specs.declared.answers.Answer.{Answer}
use Rattle.machine_contract.specs.declared.answers.Off.{Off}
use Rattle.machine_contract.specs.Courses.{Course, after, after_label, played, labels_of, label_of, and_more}
use Rattle.machine_contract.specs.Shown.{Seen, Format, IsShown, durable_of}
use Rattle.machine_contract.specs.Begins.{IsLit, CountsCut, WasFormatting}
use Rattle.machine_contract.specs.Goes.{CutGoes}
use Rattle.machine_contract.specs.Play.{Happens, IsPlayed}

-- the course after a first label, if there is one, and others
pub first_label : (c : Course) (o : Option Label) (labels : List Label)
    → played c (and_more o labels) ≡ played (after c o) labels
first_label c None labels = refl
first_label c (Some label) labels = refl

module _ {M : Type 0} (format : Format) (seen : M → Seen) (Shows : M → Course → Type 0) where
  -- the label of one more answer comes last
  pub more_labels : (events : List Event) (answers : List Answer) (e : Event) (a : Answer) (old : M) (c : Course)
      (mid : M) → IsPlayed format seen Shows events answers old c mid
      → played c (labels_of (events ++ e ∷ []) (answers ++ a ∷ []))
      ≡ after (played c (labels_of events answers)) (label_of e a)
  more_labels [] [] e a old c mid h = first_label c (label_of e a) []
  more_labels (f ∷ events) (b ∷ answers) e a old c mid h =
      first_label c (label_of f b) (labels_of (events ++ e ∷ []) (answers ++ a ∷ []))
      ∙ more_labels events answers e a h.0 (after c (label_of f b)) mid h.2
      ∙ ap (λ (x : Course). after x (label_of e a)) (sym (first_label c (label_of f b) (labels_of events answers)))
  more_labels [] (b ∷ answers) e a old c mid h = absurd h
  more_labels (f ∷ events) [] e a old c mid h = absurd h

  -- one more event comes last
  pub IsPlayed-more : (events : List Event) (answers : List Answer) (e : Event) (a : Answer) (old : M) (c : Course)
      (mid new : M) → IsPlayed format seen Shows events answers old c mid
      → Happens format seen Shows e a mid (played c (labels_of events answers)) new
      → IsPlayed format seen Shows (events ++ e ∷ []) (answers ++ a ∷ []) old c new
  IsPlayed-more [] [] e a old c mid new h last =
      (new, subst (λ (m : M). Happens format seen Shows e a m c new) (sym h) last, refl)
  IsPlayed-more (f ∷ events) (b ∷ answers) e a old c mid new h last =
      let same = first_label c (label_of f b) (labels_of events answers) in (
        h.0,
        h.1,
        IsPlayed-more events answers e a h.0 (after c (label_of f b)) mid new h.2
            (subst (λ (x : Course). Happens format seen Shows e a mid x new) same last),
      )
  IsPlayed-more [] (b ∷ answers) e a old c mid new h last = absurd h
  IsPlayed-more (f ∷ events) [] e a old c mid new h last = absurd h

  -- the same over the first events of a list
  pub IsPlayed-next : (events : List Event) (i : ℕ) (answers : List Answer) (e : Event) (a : Answer) (old : M)
      (c : Course) (mid new : M) → i < length events → e ≡ get_or events i e
      → IsPlayed format seen Shows (take i events) answers old c mid
      → Happens format seen Shows e a mid (played c (labels_of (take i events) answers)) new
      → IsPlayed format seen Shows (take (i + 1) events) (answers ++ a ∷ []) old c new
      × Shows new (played c (labels_of (take (i + 1) events) (answers ++ a ∷ [])))
  IsPlayed-next events i answers e a old c mid new below is h last =
      subst
      (λ (es : List Event). IsPlayed format seen Shows es (answers ++ a ∷ []) old c new
      × Shows new (played c (labels_of es (answers ++ a ∷ []))))
      (sym (take_more events i e below ∙ ap (λ (x : Event). take i events ++ x ∷ []) (sym is))) (
        IsPlayed-more (take i events) answers e a old c mid new h last,
        subst (λ (x : Course). Shows new x) (sym (more_labels (take i events) answers e a old c mid h)) last.shows,
      )

  -- the last machine of a play shows the course of its labels
  pub plays_show : (events : List Event) (answers : List Answer) (old : M) (c : Course) (new : M)
      → IsPlayed format seen Shows events answers old c new → Shows old c
      → Shows new (played c (labels_of events answers))
  plays_show [] [] old c new h s = subst (λ (m : M). Shows m c) h s
  plays_show (f ∷ events) (b ∷ answers) old c new h s =
      subst (λ (x : Course). Shows new x) (sym (first_label c (label_of f b) (labels_of events answers)))
      (plays_show events answers h.0 (after c (label_of f b)) new h.2 h.1.shows)
  plays_show [] (b ∷ answers) old c new h s = absurd h
  plays_show (f ∷ events) [] old c new h s = absurd h

-- a list falls into what is before a cut, the cut, and what is behind it
pub cut_at : (events : List Event) (i : ℕ) (e : Event) → i < length events → e ≡ get_or events i e → e ≡ Cut
    → events ≡ take i events ++ Cut ∷ drop (i + 1) events
cut_at events i e below at is =
    sym (take-append-drop i events)
    ∙ ap (λ (es : List Event). take i events ++ es) (drop-cons events i e below ∙ rw (add-one, sym at, is) refl)

-- how a machine goes on that was lit after a cut
pub cut_goes : (format : Format) (version : ℕ) (old new : Seen) (off : Off) (c : Course) (image : Image)
    → ((i : ℕ) → word_at off.nvm i ≡ cuts old.words i) → off.accepted ≡ old.accepted → CountsCut old off
    → (durable_of (word_at off.nvm) FORMAT_AT ≡ 0 → WasFormatting format old image off c) → IsLit off new
    → IsShown format old c → IsShown format new (after_label c label.Cut) → version ≡ c.world.version
    → CutGoes version old c new
cut_goes format version old new off c image words accepted counts formatting lit before then version_is =
    let r = lit.rest in record {
      words = λ i. ap (λ (s : Seen). s.words i) r ∙ words i;
      begins = lit.begins;
      cores = sym then.cores ∙ before.saved_cores;
      formats = λ f.
          (formatting (sym (ap (λ (s : Seen). (s.words FORMAT_AT).durable) r) ∙ lit.begins.unformatted.0 f)).mode;
      version_is = version_is;
      accepted = ap (λ (s : Seen). s.accepted) r ∙ accepted;
      ops = ap (λ (s : Seen). s.ops) r ∙ counts.ops;
      commits = ap (λ (s : Seen). s.commits) r ∙ counts.commits;
      cuts_up = ap (λ (s : Seen). s.cuts) r ∙ counts.cuts;
    }
