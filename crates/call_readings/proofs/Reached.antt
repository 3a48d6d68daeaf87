-- On which pages the bytes stand that an effect reaches.
use Rattle.std.specs.Prelude.{◌≡◌, ℕ, ◌+◌, ◌-◌, ◌/◌, ◌≤◌, ◌==◌, ◌||◌, Bool, true, false, List, [], find, Option, Some, None, option_map}
use Rattle.std.specs.List.{list_any, cons_option}
use Rattle.std.proofs.Common.{refl, sym, ap, ◌∙◌}
use Rattle.sls_base.specs.declared.limits.TheConstants.{PAGE_BYTES}
use Rattle.plain_state.specs.declared.effect.Place.{Place}
use Rattle.plain_state.specs.declared.effect.Output.{Output}
use Rattle.plain_state.specs.declared.objects.Region.{Region}
use Rattle.plain_model.specs.Objects.{Object}
use Rattle.plain_model.specs.States.{State}
use Rattle.plain_model.specs.Memory.{covers, page_at, place_in, places_of}
use Rattle.plain_model.specs.Effects.{Effect}
use Rattle.plain_model.specs.Ticks.{loads_from, stores_to, puts_to_page}
use Rattle.plain_state.proofs.SlowPlaces.{any_place}
use Rattle.plain_model.proofs.SlowReaches.{any_stored}
use Rattle.call_readings.specs.Reach.{is_any_on, ReachesPlaces}
use Rattle.call_readings.proofs.Ends.{IsByPage, one_covering, any_by_ends}

-- the byte at an address stands on a page
abbrev pub is_at_on : (ℕ → Option Object) → List Region → ℕ → ℕ → ℕ → Bool
is_at_on objects regions right page address = is_any_on objects (places_of regions right address 1) page

on_one : (objects : ℕ → Option Object) (page a b : ℕ) (region : Option Region) → a / PAGE_BYTES ≡ b / PAGE_BYTES
    → is_any_on objects (cons_option (option_map (place_in a) region) []) page ≡ is_any_on objects (cons_option (option_map (place_in b) region) []) page
on_one objects page a b None e = refl
on_one objects page a b (Some region) e = ap (λ (n : ℕ). ((page_at objects (record { memory = region.memory; page = region.first + (n - region.base); offset = 0 })).number == page) || false) e

-- that is so of all addresses of one page of addresses
pub on_by_page : (objects : ℕ → Option Object) (regions : List Region) (right page : ℕ) → IsByPage (is_at_on objects regions right page)
on_by_page objects regions right page a b e =
    on_one objects page a b (find (covers right a) regions) e
    ∙ ap (λ (o : Option Region). is_any_on objects (cons_option (option_map (place_in b) o) []) page) (one_covering right a b regions e)

-- bytes, at most a page's, stand on the page of the first and on that of the last
pub on_ends : (objects : ℕ → Option Object) (regions : List Region) (right at n page : ℕ) → 1 ≤ n → n ≤ PAGE_BYTES
    → is_any_on objects (places_of regions right at n) page
    ≡ (is_at_on objects regions right page at || is_at_on objects regions right page (at + (n - 1)))
on_ends objects regions right at n page some most =
    sym (any_place (λ (place : Place). (page_at objects place).number == page) regions right at n)
    ∙ any_by_ends (is_at_on objects regions right page) at n (on_by_page objects regions right page) some most

-- Reaches.

abbrev pub is_page_of : Option ℕ → ℕ → Bool
is_page_of None page = false
is_page_of (Some channel) page = channel == page

puts_is : (output : Option Output) (channel : Option ℕ) (page : ℕ) → option_map (λ (entry : Output). entry.channel) output ≡ channel
    → puts_to_page output page ≡ is_page_of channel page
puts_is None channel page e = rw (sym e) refl
puts_is (Some output) channel page e = rw (sym e) refl

pub loads_is : (s : State) (e : Effect) (page : ℕ) (loaded stored : List Place) (channel : Option ℕ) → ReachesPlaces e loaded stored channel
    → loads_from s e page ≡ is_any_on s.objects loaded page
loads_is s e page loaded stored channel is = ap (λ (places : List Place). is_any_on s.objects places page) is.loads

pub stores_is : (s : State) (e : Effect) (page : ℕ) (loaded stored : List Place) (channel : Option ℕ) → ReachesPlaces e loaded stored channel
    → stores_to s e page ≡ (is_any_on s.objects stored page || is_page_of channel page)
stores_is s e page loaded stored channel is =
    let test : Place → Bool = λ place. (page_at s.objects place).number == page in
    ap (λ b. b || puts_to_page e.output page) (any_stored test e.stores ∙ ap (list_any test) is.stores)
    ∙ ap (λ b. is_any_on s.objects stored page || b) (puts_is e.output channel page is.channel)

pub reaches_is : (s : State) (e : Effect) (page : ℕ) (loaded stored : List Place) (channel : Option ℕ) → ReachesPlaces e loaded stored channel
    → (loads_from s e page || stores_to s e page)
    ≡ (is_any_on s.objects loaded page || (is_any_on s.objects stored page || is_page_of channel page))
reaches_is s e page loaded stored channel is = rw (loads_is s e page loaded stored channel is, stores_is s e page loaded stored channel is) refl

-- Either of two, and none.

pub or_none : (b : Bool) → (b || false) ≡ b
or_none true = refl
or_none false = refl

pub or_three : (a b c : Bool) → ((a || b) || c) ≡ (a || (b || c))
or_three true b c = refl
or_three false b c = refl
