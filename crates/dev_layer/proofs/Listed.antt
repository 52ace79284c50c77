-- Each ID stands in an order once at most, and only where its request is in that part of its life.
use Rattle.std.proofs.Common.{◌≡◌, ℕ, zero, suc, ◌+◌, ◌≤◌, ◌<◌, Bool, true, false, cond, List, [], ◌∷◌, ◌++◌, Option, Some, None, refl, ap, sym, subst, ◌∙◌, arith, length}
use Rattle.std.specs.Bool.{◌==◌}
use Rattle.std.specs.Prelude.{nat_lt, replicate, slice_set}
use Rattle.std.proofs.lemmas.Bool.Decides.{nat_tests}
use Rattle.std.proofs.lemmas.List.{length-set}
use Rattle.kernel_model.specs.LawWords.Once.{times, IsOnce, AreBelow}
use Rattle.kernel_model.specs.Words.Orders.{entry, without}
use Rattle.kernel_lemmas.proofs.Once.{room_below, times_append, times_filter, times_without}
use Rattle.kernel_lemmas.proofs.Tables.{entry_beyond, entry_each}
use Rattle.device_model.specs.declared.rows.Life.{Life}
use Rattle.device_model.specs.declared.rows.Life.TheVariants.{AtDriver, Ended, Queued}
use Rattle.device_model.specs.Devices.Tables.{Row, has_ended, is_at_driver, is_queued, joined}
use Rattle.dev_layer.specs.Requests.{AreListed, AreRequests, life_test}

none_at : (n id : ℕ) → entry (replicate {A = Option Row} n None) id ≡ None
none_at zero id = refl
none_at (suc n) zero = refl
none_at (suc n) (suc id) = none_at n id

-- nothing is listed at first
pub none_listed : (test : Life → Bool) (rows : List (Option Row)) (ids : List ℕ) → rows ≡ replicate 65 None → ids ≡ [] → AreListed test rows ids
none_listed test rows ids none empty = record { listed = λ id. subst (λ (xs : List ℕ). times id xs ≤ cond (life_test test (entry rows id)) 1 0) (sym empty) (omega arith) }

-- a slot of the table has what was written
pub written : {A : Type 0} → (xs : List (Option A)) (i : ℕ) (y : Option A) → i < length xs → entry (slice_set xs i y) i ≡ y
written [] i y inside = absurd (omega (arith, inside))
written (x ∷ xs) zero y inside = refl
written (x ∷ xs) (suc i) y inside = written xs i y (omega (arith, inside))

-- one slot is written, and the order changes for that ID alone
pub listed_set : (test : Life → Bool) (rows : List (Option Row)) (ids after : List ℕ) (id : ℕ) (slot : Option Row) → id < length rows → AreListed test rows ids →
    times id after ≤ cond (life_test test slot) 1 0 → ((n : ℕ) → (n ≡ id → ⊥) → times n after ≤ times n ids) → AreListed test (slice_set rows id slot) after
listed_set test rows ids after id slot inside all here others = record {
  listed = entry_each (λ n o. times n after ≤ cond (life_test test o) 1 0) rows id slot
      (subst (λ (o : Option Row). times id after ≤ cond (life_test test o) 1 0) (sym (written rows id slot inside)) here)
      (λ n apart. let fewer : times n after ≤ times n ids = others n apart in let one : times n ids ≤ cond (life_test test (entry rows n)) 1 0 = all.listed n in omega (arith, fewer, one));
}

-- an ID that isn't listed may be put behind
behind_other : (n id : ℕ) (ids : List ℕ) (b : Bool) → (id == n) ≡ b → (n ≡ id → ⊥) → times n (ids ++ id ∷ []) ≤ times n ids
behind_other n id ids true is apart = absurd (apart (grind (arith, nat_tests, is)))
behind_other n id ids false is apart = rw (times_append n ids (id ∷ [])) (rw is (omega arith))

behind_here : (id : ℕ) (ids : List ℕ) → times id ids ≡ 0 → times id (ids ++ id ∷ []) ≤ 1
behind_here id ids none = rw (times_append id ids (id ∷ [])) (let itself : (id == id) ≡ true = grind (arith, nat_tests) in rw itself (omega (arith, none)))

pub listed_behind : (test : Life → Bool) (rows : List (Option Row)) (ids : List ℕ) (id : ℕ) (row : Row) → id < length rows → AreListed test rows ids → times id ids ≡ 0 → test row.life ≡ true →
    AreListed test (slice_set rows id (Some row)) (ids ++ id ∷ [])
listed_behind test rows ids id row inside all none is =
    listed_set test rows ids (ids ++ id ∷ []) id (Some row) inside all
    (subst (λ (b : Bool). times id (ids ++ id ∷ []) ≤ cond b 1 0) (sym is) (behind_here id ids none))
    (λ n apart. behind_other n id ids (id == n) refl apart)

-- it is taken out
pub listed_without : (test : Life → Bool) (rows : List (Option Row)) (ids : List ℕ) (id : ℕ) (slot : Option Row) → id < length rows → AreListed test rows ids → AreListed test (slice_set rows id slot) (without id ids)
listed_without test rows ids id slot inside all =
    listed_set test rows ids (without id ids) id slot inside all (let none = times_without id ids in omega (arith, none)) (λ n apart. times_filter _ n ids)

-- it isn't listed, before and after
pub listed_still : (test : Life → Bool) (rows : List (Option Row)) (ids : List ℕ) (id : ℕ) (slot : Option Row) → id < length rows → AreListed test rows ids → times id ids ≡ 0 → AreListed test (slice_set rows id slot) ids
listed_still test rows ids id slot inside all none =
    listed_set test rows ids ids id slot inside all (omega (arith, none)) (λ n apart. omega arith)

-- what isn't in that part of its life isn't listed
pub unlisted : (test : Life → Bool) (rows : List (Option Row)) (ids : List ℕ) (id : ℕ) → AreListed test rows ids → life_test test (entry rows id) ≡ false → times id ids ≡ 0
unlisted test rows ids id all not_so = let most : times id ids ≤ cond false 1 0 = subst (λ (b : Bool). times id ids ≤ cond b 1 0) not_so (all.listed id) in omega (arith, most)

one_at_most : (b : Bool) → cond b 1 0 ≤ 1
one_at_most true = omega arith
one_at_most false = omega arith

once : (test : Life → Bool) (rows : List (Option Row)) (ids : List ℕ) → AreListed test rows ids → IsOnce ids
once test rows ids all = λ n. let most = all.listed n in let one = one_at_most (life_test test (entry rows n)) in omega (arith, most, one)

below_head : (limit id : ℕ) (ids : List ℕ) (b : Bool) → nat_lt id limit ≡ b → ((n : ℕ) → limit ≤ n → times n (id ∷ ids) ≡ 0) → id < limit
below_head limit id ids true is none = grind (arith, nat_tests, is)
below_head limit id ids false is none =
    let over : limit ≤ id = grind (arith, nat_tests, is) in
    let itself : (id == id) ≡ true = grind (arith, nat_tests) in
    let counted : cond (id == id) 1 0 + times id ids ≡ 0 = none id over in
    let one : 1 + times id ids ≡ 0 = rw itself at counted in
    absurd (omega (arith, one))

below_of : (limit : ℕ) (ids : List ℕ) → ((n : ℕ) → limit ≤ n → times n ids ≡ 0) → AreBelow limit ids
below_of limit [] none = tt
below_of limit (id ∷ ids) none = (below_head limit id ids (nat_lt id limit) refl none, below_of limit ids (λ n over. let all = none n over in omega (arith, all)))

beyond_none : (test : Life → Bool) (rows : List (Option Row)) (ids : List ℕ) → AreListed test rows ids → (n : ℕ) → length rows ≤ n → times n ids ≡ 0
beyond_none test rows ids all n over = unlisted test rows ids n all (ap (life_test test) (entry_beyond rows n over))

-- there is room for one that isn't listed
pub room_for : (test : Life → Bool) (rows : List (Option Row)) (ids : List ℕ) (id : ℕ) → id < length rows → AreListed test rows ids → times id ids ≡ 0 → length ids < length rows
room_for test rows ids id inside all none = room_below (length rows) id ids inside (below_of (length rows) ids (beyond_none test rows ids all)) (once test rows ids all) none

-- ---- the table of requests

gap : (test : Life → Bool) (rows : List (Option Row)) (id : ℕ) → entry rows id ≡ None → life_test test (entry rows id) ≡ false
gap test rows id none = ap (life_test test) none

listed_if : (test : Life → Bool) (rows : List (Option Row)) (ids : List ℕ) (id : ℕ) (row : Row) (b : Bool) → test row.life ≡ b → id < length rows → AreListed test rows ids → times id ids ≡ 0 →
    AreListed test (slice_set rows id (Some row)) (joined b id ids)
listed_if test rows ids id row true is inside all none = listed_behind test rows ids id row inside all none is
listed_if test rows ids id row false is inside all none = listed_still test rows ids id (Some row) inside all none

-- there is room for an ID that is free
pub room_waiting : (rows : List (Option Row)) (queued ended : List ℕ) (queued_room ended_room id : ℕ) → AreRequests rows queued ended queued_room ended_room → id ≤ 64 → entry rows id ≡ None → length queued < queued_room
room_waiting rows queued ended queued_room ended_room id is within none =
    let slots : length rows ≡ 65 = is.slots in
    let room : 65 ≤ queued_room = is.room_waiting in
    let few : length queued < length rows = room_for is_queued rows queued id (omega (arith, within, slots)) is.waiting (unlisted is_queued rows queued id is.waiting (gap is_queued rows id none)) in
    omega (arith, few, room, slots)

-- and for one whose request hasn't ended
pub room_done : (rows : List (Option Row)) (queued ended : List ℕ) (queued_room ended_room id : ℕ) → AreRequests rows queued ended queued_room ended_room → id ≤ 64 → life_test has_ended (entry rows id) ≡ false → length ended < ended_room
room_done rows queued ended queued_room ended_room id is within not_so =
    let slots : length rows ≡ 65 = is.slots in
    let room : 65 ≤ ended_room = is.room_done in
    let few : length ended < length rows = room_for has_ended rows ended id (omega (arith, within, slots)) is.done (unlisted has_ended rows ended id is.done not_so) in
    omega (arith, few, room, slots)

pub accepted_fit : (rows : List (Option Row)) (queued ended waiting done : List ℕ) (queued_room ended_room waiting_room done_room id : ℕ) (row : Row) → AreRequests rows queued ended queued_room ended_room → id ≤ 64 → entry rows id ≡ None →
    waiting ≡ joined (is_queued row.life) id queued → done ≡ joined (has_ended row.life) id ended → waiting_room ≡ queued_room → done_room ≡ ended_room →
    AreRequests (slice_set rows id (Some row)) waiting done waiting_room done_room
accepted_fit rows queued ended waiting done queued_room ended_room waiting_room done_room id row is within none waits ends same_waiting same_done =
    let slots : length rows ≡ 65 = is.slots in
    let inside : id < length rows = omega (arith, within, slots) in
    record {
      slots = length-set rows id (Some row) ∙ slots;
      waiting = subst (λ (ids : List ℕ). AreListed is_queued (slice_set rows id (Some row)) ids) (sym waits) (listed_if is_queued rows queued id row (is_queued row.life) refl inside is.waiting (unlisted is_queued rows queued id is.waiting (gap is_queued rows id none)));
      done = subst (λ (ids : List ℕ). AreListed has_ended (slice_set rows id (Some row)) ids) (sym ends) (listed_if has_ended rows ended id row (has_ended row.life) refl inside is.done (unlisted has_ended rows ended id is.done (gap has_ended rows id none)));
      room_waiting = subst (λ (n : ℕ). 65 ≤ n) (sym same_waiting) is.room_waiting;
      room_done = subst (λ (n : ℕ). 65 ≤ n) (sym same_done) is.room_done;
    }

pub dropped_fit : (rows : List (Option Row)) (queued ended waiting done : List ℕ) (queued_room ended_room waiting_room done_room id : ℕ) → AreRequests rows queued ended queued_room ended_room → id < length rows →
    waiting ≡ without id queued → done ≡ without id ended → waiting_room ≡ queued_room → done_room ≡ ended_room →
    AreRequests (slice_set rows id None) waiting done waiting_room done_room
dropped_fit rows queued ended waiting done queued_room ended_room waiting_room done_room id is inside waits ends same_waiting same_done = record {
  slots = length-set rows id None ∙ is.slots;
  waiting = subst (λ (ids : List ℕ). AreListed is_queued (slice_set rows id None) ids) (sym waits) (listed_without is_queued rows queued id None inside is.waiting);
  done = subst (λ (ids : List ℕ). AreListed has_ended (slice_set rows id None) ids) (sym ends) (listed_without has_ended rows ended id None inside is.done);
  room_waiting = subst (λ (n : ℕ). 65 ≤ n) (sym same_waiting) is.room_waiting;
  room_done = subst (λ (n : ℕ). 65 ≤ n) (sym same_done) is.room_done;
}

pub handed_fit : (rows : List (Option Row)) (queued ended waiting : List ℕ) (queued_room ended_room waiting_room id : ℕ) (row now : Row) → AreRequests rows queued ended queued_room ended_room → id < length rows →
    has_ended now.life ≡ false → life_test has_ended (entry rows id) ≡ false → waiting ≡ without id queued → waiting_room ≡ queued_room →
    AreRequests (slice_set rows id (Some now)) waiting ended waiting_room ended_room
handed_fit rows queued ended waiting queued_room ended_room waiting_room id row now is inside goes was waits same_waiting = record {
  slots = length-set rows id (Some now) ∙ is.slots;
  waiting = subst (λ (ids : List ℕ). AreListed is_queued (slice_set rows id (Some now)) ids) (sym waits) (listed_without is_queued rows queued id (Some now) inside is.waiting);
  done = listed_still has_ended rows ended id (Some now) inside is.done (unlisted has_ended rows ended id is.done was);
  room_waiting = subst (λ (n : ℕ). 65 ≤ n) (sym same_waiting) is.room_waiting;
  room_done = is.room_done;
}

pub ended_fit : (rows : List (Option Row)) (queued ended done : List ℕ) (queued_room ended_room done_room id : ℕ) (now : Row) → AreRequests rows queued ended queued_room ended_room → id < length rows →
    has_ended now.life ≡ true → life_test has_ended (entry rows id) ≡ false → life_test is_queued (entry rows id) ≡ false → done ≡ ended ++ id ∷ [] → done_room ≡ ended_room →
    AreRequests (slice_set rows id (Some now)) queued done queued_room done_room
ended_fit rows queued ended done queued_room ended_room done_room id now is inside ends was unqueued behind same_done = record {
  slots = length-set rows id (Some now) ∙ is.slots;
  waiting = listed_still is_queued rows queued id (Some now) inside is.waiting (unlisted is_queued rows queued id is.waiting unqueued);
  done = subst (λ (ids : List ℕ). AreListed has_ended (slice_set rows id (Some now)) ids) (sym behind) (listed_behind has_ended rows ended id now inside is.done (unlisted has_ended rows ended id is.done was) ends);
  room_waiting = is.room_waiting;
  room_done = subst (λ (n : ℕ). 65 ≤ n) (sym same_done) is.room_done;
}

-- what is with a driver neither waits nor has ended
pub there_not_ended : (life : Life) → is_at_driver life ≡ true → has_ended life ≡ false
there_not_ended Queued is = absurd (cc is)
there_not_ended AtDriver is = refl
there_not_ended (Ended size error) is = absurd (cc is)

pub there_not_queued : (life : Life) → is_at_driver life ≡ true → is_queued life ≡ false
there_not_queued Queued is = absurd (cc is)
there_not_queued AtDriver is = refl
there_not_queued (Ended size error) is = absurd (cc is)
