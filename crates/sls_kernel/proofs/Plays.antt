-- A play goes on by one event.
use Rattle.std.proofs.Common.{◌≡◌, ◌⊎◌, ◌↔◌, inl, inr, ℕ, ◌+◌, ◌<◌, ◌≤◌, List, [], ◌∷◌, ◌++◌, length, take, drop, get_or, refl, sym, ap, ◌∙◌, subst, drop-cons, add-one}
use Rattle.std.proofs.lemmas.List.{take_more, take-append-drop}
use Rattle.pmem_model.specs.Words.{cuts}
use Rattle.pmem_model.specs.Memory.{Memory, word_at}
use Rattle.sls_kernel.specs.Plain.{World}
use Rattle.sls_kernel.specs.Side.{Formatting, Recovering}
use Rattle.sls_kernel.specs.Shows.{durable_words}
use Rattle.sls_kernel.specs.declared.play.Event.{Event}
use Rattle.sls_kernel.specs.declared.play.Event.TheVariants.{Turn, Cut}
use Rattle.sls_kernel.specs.declared.play.Answer.{Answer}
use Rattle.sls_kernel.specs.Play.{Side, IsAnswer, IsPlayed, CutGoes, after, played}

pub played-more : (w : World) (answers : List Answer) (a : Answer) → played w (answers ++ a ∷ []) ≡ after (played w answers) a
played-more w [] a = refl
played-more w (b ∷ answers) a = played-more (after w b) answers a

pub IsPlayed-more : (events : List Event) (answers : List Answer) (e : Event) (a : Answer) (old : Side) (w : World) (mid new : Side) → IsPlayed events answers old w mid → IsAnswer e a mid (played w answers) new → IsPlayed (events ++ e ∷ []) (answers ++ a ∷ []) old w new
IsPlayed-more [] [] e a old w mid new h l = (new, subst (λ (s : Side). IsAnswer e a s w new) h l, refl)
IsPlayed-more (f ∷ events) (b ∷ answers) e a old w mid new h l = (h.0, h.1, IsPlayed-more events answers e a h.0 (after w b) mid new h.2 l)
IsPlayed-more [] (b ∷ answers) e a old w mid new h l = absurd h
IsPlayed-more (f ∷ events) [] e a old w mid new h l = absurd h

-- the same over the first events of a list
pub IsPlayed-next : (events : List Event) (i : ℕ) (answers : List Answer) (a : Answer) (old : Side) (w : World) (mid new : Side) → i < length events → IsPlayed (take i events) answers old w mid → IsAnswer (get_or events i Turn) a mid (played w answers) new → IsPlayed (take (i + 1) events) (answers ++ a ∷ []) old w new
IsPlayed-next events i answers a old w mid new below h l =
    subst (λ (es : List Event). IsPlayed es (answers ++ a ∷ []) old w new) (sym (take_more events i Turn below))
    (IsPlayed-more (take i events) answers (get_or events i Turn) a old w mid new h l)

-- a list falls into what is before a cut, the cut, and what is behind it
pub cut_at : (events : List Event) (i : ℕ) → i < length events → get_or events i Turn ≡ Cut → events ≡ take i events ++ Cut ∷ drop (i + 1) events
cut_at events i below is =
    sym (take-append-drop i events)
    ∙ ap (λ (es : List Event). take i events ++ es) (drop-cons events i Turn below ∙ rw (add-one, is) refl)

-- how a machine goes on that was lit after a cut
pub cut_goes : (old new : Side) (nvm : Memory) → new.memory ≡ nvm → ((i : ℕ) → word_at nvm i ≡ cuts (word_at old.memory) i) → (new.doing ≡ Formatting) ⊎ (new.doing ≡ Recovering) → (new.doing ≡ Formatting) ↔ (durable_words nvm 0 ≡ 0) → (durable_words nvm 0 ≡ 0 → old.doing ≡ Formatting) → new.turns ≤ 17 → CutGoes old new
cut_goes old new nvm is words begins formats before turns =
    let same : durable_words new.memory 0 ≡ durable_words nvm 0 = ap (λ (m : Memory). durable_words m 0) is in
    record {
      words = λ i. ap (λ (m : Memory). word_at m i) is ∙ words i;
      doing = elim begins [
        | inl formatting ↦ inr (formatting, before (formats.0 formatting), same ∙ formats.0 formatting)
        | inr recovering ↦ inl (recovering, λ zero. let formatting = formats.1 (sym same ∙ zero) in cc)
      ];
      turns = turns;
    }
