use Rattle.std.proofs.Common.{◌≡◌, ℕ, List, ◌++◌, ◌∷◌, [], suc, arith, sym, ap, ◌∙◌, length, take, subst, All}
use Rattle.std.proofs.lemmas.List.Elements.{All-push}
use Rattle.std.proofs.lemmas.Slice.Zip.{zip_turn, zip_end}
use Rattle.plain_state.specs.declared.effect.ByteStore.{ByteStore}
use Rattle.plain_state.specs.Memory as plain
use Rattle.plain_state.specs.InPages.{IsInPage, StoresInPage}
use Rattle.plain_state.proofs.SlowMemory.{stores_next, stores_all, one_longer}
use Rattle.plain_state.proofs.memory.stores_at.Goals as goal

pub loop-place-preserved : goal.loop-place-preserved
loop-place-preserved c =
    let l = c.loop-place in
    let places = c.args.places.now in
    let values = c.args.values.now in
    let k = length l.yielded in
    let place = c.in-Some.place.now in
    let value = c.in-Some.value.now in
    let turn = zip_turn places values l.yielded c.into_iter-place-iterator.result l.place-iterator c.next.new.self c.next.result (cc) (cc) l.yielded_by (c.in-Some.place, c.in-Some.value) c.in-Some.is c.next.ensures.steps in
    let more : length (l.yielded ++ (c.in-Some.place, c.in-Some.value) ∷ []) ≡ suc k = one_longer l.yielded (c.in-Some.place, c.in-Some.value) ∙ omega arith in
    let longer = stores_next places values k place value turn.0 turn.1 (turn.2 place) (turn.3 value) in
    let store : ByteStore = record { place = place; value = value } in
    let here : c.push.new.self.items ≡ l.stores.items ++ store ∷ [] = c.in_ok-push.ensures.items in
    record {
      stores = here ∙ ap (λ (s : List ByteStore). s ++ store ∷ []) l.invariant.stores ∙ sym (ap (λ (n : ℕ). plain.stores_at (take n places) (take n values)) more ∙ longer);
      in_pages = subst (All StoresInPage) (sym here) (All-push StoresInPage l.stores.items store l.invariant.in_pages (subst IsInPage (sym (turn.2 place)) (c.requires k place turn.0)));
    }

pub returns-clause-stores : goal.returns-clause-stores
returns-clause-stores c =
    let l = c.loop-place in
    let places = c.args.places.now in
    let values = c.args.values.now in
    let end = zip_end places values l.yielded c.into_iter-place-iterator.result l.place-iterator c.next.new.self c.next.result (cc) (cc) l.yielded_by c.in-None.is c.next.ensures.steps in
    l.invariant.stores ∙ stores_all places values (length l.yielded) end
