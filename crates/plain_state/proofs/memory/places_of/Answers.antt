use Rattle.std.proofs.Common.{◌≡◌, ◌+◌, ◌-◌, ◌++◌, ◌∷◌, [], suc, arith, sym, ap, ◌∙◌, length, subst, All, Vec, Global}
use Rattle.std.proofs.lemmas.List.Elements.{All-push}
use Rattle.plain_state.specs.declared.effect.Place.{Place}
use Rattle.plain_state.specs.Memory as plain
use Rattle.plain_state.specs.InPages.{IsInPage}
use Rattle.plain_state.proofs.SlowMemory.{place_found, place_missed, one_longer}
use Rattle.plain_state.proofs.memory.places_of.Goals as goal
use Rattle.plain_state.proofs.memory.places_of.Goals.{in-Some+in_ok-push, in_default}

pub loop-address-preserved : goal.loop-address-preserved
loop-address-preserved c =
    let l = c.loop-address in
    let h = plain.place_of c.args.regions.now c.args.right in
    let n = l.address - c.args.at in
    let m = l.address + 1 - c.args.at in
    let sum : c.args.at + n ≡ l.address = omega arith in
    let next : m ≡ suc n = omega arith in
    let after = c.match-place_of.places.items in
    elim c.match-place_of.branch [
      | in-Some+in_ok-push w ↦
          let here : after ≡ l.places.items ++ w.in-Some.place ∷ [] = ap (λ (v : Vec Place Global). v.items) w.places-is ∙ w.in_ok-push.ensures.items in
          let longer = ap length here ∙ one_longer l.places.items w.in-Some.place in
          record {
            places = place_found h c.args.at n l.address m l.places.items after w.in-Some.place sum next l.invariant.places (sym c.place_of.ensures.place ∙ w.in-Some.is) here;
            count = omega (arith, longer, l.invariant.count, next);
            in_pages = subst (All IsInPage) (sym here) (All-push IsInPage l.places.items w.in-Some.place l.invariant.in_pages w.in-Some.ensures.in_page);
          }
      | in_default w ↦
          let here : after ≡ l.places.items = ap (λ (v : Vec Place Global). v.items) w.places-is in
          let longer = ap length here in
          record {
            places = here ∙ place_missed h c.args.at n l.address m l.places.items sum next l.invariant.places (sym c.place_of.ensures.place ∙ w.in_default.is);
            count = omega (arith, longer, l.invariant.count, next);
            in_pages = subst (All IsInPage) (sym here) l.invariant.in_pages;
          }
    ]
