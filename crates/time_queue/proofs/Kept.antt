-- What setting an event does to the list, and what it keeps.
use Rattle.std.proofs.Common.{◌≡◌, ℕ, suc, ◌+◌, ◌<◌, ◌≤◌, ◌≢◌, Bool, true, false, not, ltb, leb, List, [], ◌∷◌, ◌++◌, None, length, refl, sym, ap, ◌∙◌, inl, inr, arith}
use Rattle.std.specs.List.{All, AllPairs, filter, insert, position, position_or_len}
use Rattle.std.proofs.lemmas.Bool.Decides.{nat_tests}
use Rattle.std.proofs.lemmas.List.Sums.{prefix_len-le-length}
use Rattle.std.proofs.lemmas.Bool.{cases_lt, lt-ltb, le-ltb, le-leb, lt-leb}
use Rattle.std.proofs.lemmas.List.Elements.{All-nil, All-cons, All-head, All-tail, All-weaker, All-filter}
use Rattle.std.proofs.lemmas.List.Kept.{AllPairs-cons, AllPairs-filter}
use Rattle.std.proofs.lemmas.List.Filters.{length-filter_both}
use Rattle.tk_types.specs.declared.task.DueEvent.{DueEvent}
use Rattle.kernel_model.specs.Words.Events.{insert_event}
use Rattle.time_queue.specs.Queue.{IsInOrder, HasDistinctKeys, HasKeysBelow, IsKept}

pub pairs_head : {X : Type 0} (R : X → X → Type 0) (x : X) (xs : List X) → AllPairs R (x ∷ xs) → All (R x) xs
pairs_head R x xs pairs = λ k d within. pairs 0 (suc k) d (omega arith) (omega arith)

pub pairs_tail : {X : Type 0} (R : X → X → Type 0) (x : X) (xs : List X) → AllPairs R (x ∷ xs) → AllPairs R xs
pairs_tail R x xs pairs = λ i j d before within. pairs (suc i) (suc j) d (omega arith) (omega arith)

pairs_of_one : {X : Type 0} (R : X → X → Type 0) (x : X) → AllPairs R (x ∷ [])
pairs_of_one R x = λ i j d before within. absurd (omega arith)

-- an event in front of a list that falls due later, or behind its first one
pub all_inserted : (P : DueEvent → Type 0) (event : DueEvent) (events : List DueEvent) → P event → All P events → All P (insert_event event events)
all_inserted P event [] here all = All-cons P event [] here all
all_inserted P event (first ∷ rest) here all =
    elim (cases_lt event.time first.time) [
      | inl before ↦ rw (lt-ltb _ _ before) (All-cons P event (first ∷ rest) here all)
      | inr behind ↦ rw (le-ltb _ _ behind) (All-cons P first (insert_event event rest) (All-head P first rest all) (all_inserted P event rest here (All-tail P first rest all)))
    ]

pub in_order_inserted : (event : DueEvent) (events : List DueEvent) → IsInOrder events → IsInOrder (insert_event event events)
in_order_inserted event [] order = pairs_of_one (λ (a b : DueEvent). a.time ≤ b.time) event
in_order_inserted event (first ∷ rest) order =
    let R = λ (a b : DueEvent). a.time ≤ b.time in
    let later : All (R first) rest = pairs_head R first rest order in
    elim (cases_lt event.time first.time) [
      | inl before ↦ rw (lt-ltb _ _ before) (AllPairs-cons R event (first ∷ rest) (All-cons (R event) first rest (omega arith) (All-weaker (R first) (R event) (λ x h. omega arith) rest later)) order)
      | inr behind ↦ rw (le-ltb _ _ behind) (AllPairs-cons R first (insert_event event rest) (all_inserted (R first) event rest behind later) (in_order_inserted event rest (pairs_tail R first rest order)))
    ]

distinct_when_new : (event : DueEvent) (events : List DueEvent) → All (λ other. event.key ≢ other.key) events → HasDistinctKeys events → HasDistinctKeys (insert_event event events)
distinct_when_new event [] new distinct = pairs_of_one (λ (a b : DueEvent). a.key ≢ b.key) event
distinct_when_new event (first ∷ rest) new distinct =
    let R = λ (a b : DueEvent). a.key ≢ b.key in
    elim (cases_lt event.time first.time) [
      | inl before ↦ rw (lt-ltb _ _ before) (AllPairs-cons R event (first ∷ rest) new distinct)
      | inr behind ↦ rw (le-ltb _ _ behind) (AllPairs-cons R first (insert_event event rest) (all_inserted (R first) event rest (λ e. All-head (R event) first rest new (sym e)) (pairs_head R first rest distinct)) (distinct_when_new event rest (All-tail (R event) first rest new) (pairs_tail R first rest distinct)))
    ]

pub distinct_inserted : (event : DueEvent) (events : List DueEvent) → HasKeysBelow event.key events → HasDistinctKeys events → HasDistinctKeys (insert_event event events)
distinct_inserted event events given distinct =
    distinct_when_new event events (All-weaker (λ (other : DueEvent). other.key < event.key) (λ (other : DueEvent). event.key ≢ other.key) (λ x h. omega arith) events given) distinct

pub given_inserted : (event : DueEvent) (events : List DueEvent) → HasKeysBelow event.key events → HasKeysBelow (event.key + 1) (insert_event event events)
given_inserted event events given =
    let Q = λ (other : DueEvent). other.key < event.key + 1 in
    all_inserted Q event events (omega arith) (All-weaker (λ (other : DueEvent). other.key < event.key) Q (λ x h. omega arith) events given)

pub length_inserted : (event : DueEvent) (events : List DueEvent) → length (insert_event event events) ≡ length events + 1
length_inserted event [] = refl
length_inserted event (first ∷ rest) =
    elim (cases_lt event.time first.time) [
      | inl before ↦ rw (lt-ltb _ _ before) (omega arith)
      | inr behind ↦ rw (le-ltb _ _ behind) (omega (arith, length_inserted event rest))
    ]

insert_behind_first : (event first : DueEvent) (rest : List DueEvent) (place : ℕ) → insert (first ∷ rest) (1 + place) event ≡ first ∷ insert rest place event
insert_behind_first event first rest place = let e : 1 + place ≡ suc place = omega arith in rw e refl

-- the place behind all that fall due by a time
pub inserted_at_place : (event : DueEvent) (events : List DueEvent) → insert events (position_or_len (λ other. ltb event.time other.time) events) event ≡ insert_event event events
inserted_at_place event [] = refl
inserted_at_place event (first ∷ rest) =
    elim (cases_lt event.time first.time) [
      | inl before ↦ rw (lt-ltb _ _ before) refl
      | inr behind ↦ rw (le-ltb _ _ behind) (insert_behind_first event first rest (position_or_len (λ other. ltb event.time other.time) rest) ∙ ap (λ xs. first ∷ xs) (inserted_at_place event rest))
    ]

none_kept : (p : DueEvent → Bool) (xs : List DueEvent) → All (λ x. p x ≡ false) xs → filter p xs ≡ []
none_kept p [] none = refl
none_kept p (x ∷ xs) none = rw (All-head (λ x. p x ≡ false) x xs none) (none_kept p xs (All-tail (λ x. p x ≡ false) x xs none))

all_kept : (p : DueEvent → Bool) (xs : List DueEvent) → All (λ x. p x ≡ true) xs → filter p xs ≡ xs
all_kept p [] all = refl
all_kept p (x ∷ xs) all = rw (All-head (λ x. p x ≡ true) x xs all) (ap (λ ys. x ∷ ys) (all_kept p xs (All-tail (λ x. p x ≡ true) x xs all)))

before_later : (event : DueEvent) (events : List DueEvent) → All (λ other. event.time < other.time) events → event ∷ events ≡ filter (λ other. leb other.time event.time) events ++ event ∷ filter (λ other. ltb event.time other.time) events
before_later event events later =
    let P = λ (other : DueEvent). event.time < other.time in
    rw (none_kept (λ other. leb other.time event.time) events (All-weaker P (λ other. leb other.time event.time ≡ false) (λ x h. lt-leb _ _ h) events later), all_kept (λ other. ltb event.time other.time) events (All-weaker P (λ other. ltb event.time other.time ≡ true) (λ x h. lt-ltb _ _ h) events later)) refl

insert_before_first : (event first : DueEvent) (rest : List DueEvent) → event.time < first.time → insert_event event (first ∷ rest) ≡ event ∷ first ∷ rest
insert_before_first event first rest before = rw (lt-ltb _ _ before) refl

pub behind_equals : (event : DueEvent) (events : List DueEvent) → IsInOrder events → insert_event event events ≡ filter (λ other. leb other.time event.time) events ++ event ∷ filter (λ other. ltb event.time other.time) events
behind_equals event [] order = refl
behind_equals event (first ∷ rest) order =
    let R = λ (a b : DueEvent). a.time ≤ b.time in
    let P = λ (other : DueEvent). event.time < other.time in
    elim (cases_lt event.time first.time) [
      | inl before ↦ insert_before_first event first rest before ∙ (before_later event (first ∷ rest) (All-cons P first rest before (All-weaker (R first) P (λ x h. omega arith) rest (pairs_head R first rest order))))
      | inr behind ↦ rw (le-ltb _ _ behind, le-leb _ _ behind) (ap (λ xs. first ∷ xs) (behind_equals event rest (pairs_tail R first rest order)))
    ]

-- what a queue keeps
pub kept_inserted : (event : DueEvent) (events : List DueEvent) (most capacity larger : ℕ) → IsKept events event.key most capacity → length events < most → capacity ≤ larger → IsKept (insert_event event events) (event.key + 1) most larger
kept_inserted event events most capacity larger kept below grown = record {
  in_order = in_order_inserted event events kept.in_order;
  distinct = distinct_inserted event events kept.given kept.distinct;
  given = given_inserted event events kept.given;
  within = omega (arith, length_inserted event events);
  room = let h : most ≤ capacity = kept.room in omega arith;
}

pub kept_filtered : (p : DueEvent → Bool) (events : List DueEvent) (made most capacity : ℕ) → IsKept events made most capacity → IsKept (filter p events) made most capacity
kept_filtered p events made most capacity kept = record {
  in_order = AllPairs-filter (λ (a b : DueEvent). a.time ≤ b.time) p events kept.in_order;
  distinct = AllPairs-filter (λ (a b : DueEvent). a.key ≢ b.key) p events kept.distinct;
  given = All-filter p (λ (event : DueEvent). event.key < made) events kept.given;
  within = omega (arith, length-filter_both p (λ x. not (p x)) (λ x. refl) events);
  room = kept.room;
}

pub kept_behind_first : (first : DueEvent) (rest : List DueEvent) (made most capacity : ℕ) → IsKept (first ∷ rest) made most capacity → IsKept rest made most capacity
kept_behind_first first rest made most capacity kept = record {
  in_order = pairs_tail (λ (a b : DueEvent). a.time ≤ b.time) first rest kept.in_order;
  distinct = pairs_tail (λ (a b : DueEvent). a.key ≢ b.key) first rest kept.distinct;
  given = All-tail (λ (event : DueEvent). event.key < made) first rest kept.given;
  within = let h : suc (length rest) ≤ most = kept.within in omega arith;
  room = kept.room;
}

pub kept_at_start : (most capacity : ℕ) → most ≤ capacity → IsKept [] 0 most capacity
kept_at_start most capacity room = record {
  in_order = λ i j d before within. absurd (omega arith);
  distinct = λ i j d before within. absurd (omega arith);
  given = All-nil (λ (event : DueEvent). event.key < 0);
  within = omega arith;
  room = room;
}

pub place_behind_all : (p : DueEvent → Bool) (events : List DueEvent) → position p events ≡ None → length events ≡ position_or_len p events
place_behind_all p events none = grind (arith, nat_tests, prefix_len-le-length)

pub ruleset placing = (place_behind_all, prefix_len-le-length)
