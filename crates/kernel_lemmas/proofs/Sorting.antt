-- Sorting by a key: what it keeps, and how it goes together with filters.
use Rattle.std.proofs.Common.{◌≡◌, ℕ, ◌+◌, ◌≤◌, ◌<◌, Bool, true, false, nat_lt, cond, List, [], ◌∷◌, ◌++◌, append_assoc, append-nil, refl, arith, ap, sym, ◌∙◌}
use Rattle.std.specs.Bool.{◌==◌}
use Rattle.std.specs.Prelude.{filter, fold}
use Rattle.std.proofs.lemmas.Bool.{ltb-true, ltb-false}
use Rattle.std.proofs.lemmas.Bool.Decides.{nat_tests}
use Rattle.std.proofs.lemmas.List.Sums.{fold-append}
use Rattle.kernel_model.specs.Words.Orders.{insert_behind, sort_by}
use Rattle.kernel_model.specs.LawWords.Once.{times}
use Rattle.kernel_model.specs.LawWords.Rising.{AllFrom, IsRisingBy}

-- the IDs are put one after another into a list
abbrev pub sorted_onto : (ℕ → ℕ) → List ℕ → List ℕ → List ℕ
sorted_onto key sorted ids = fold (λ sorted id. insert_behind key id sorted) sorted ids

-- ---- rising keys

from_lower : (key : ℕ → ℕ) (low high : ℕ) (ids : List ℕ) → low ≤ high → AllFrom key high ids → AllFrom key low ids
from_lower key low high [] lower all = tt
from_lower key low high (id ∷ ids) lower all = (omega (arith, all.0), from_lower key low high ids lower all.1)

from_step : (b : Bool) (key : ℕ → ℕ) (low id first : ℕ) (rest behind : List ℕ) → low ≤ key id → AllFrom key low (first ∷ rest) → AllFrom key low behind → AllFrom key low (cond b (id ∷ first ∷ rest) (first ∷ behind))
from_step true key low id first rest behind here all more = (here, all)
from_step false key low id first rest behind here all more = (all.0, more)

from_insert : (key : ℕ → ℕ) (low id : ℕ) (ids : List ℕ) → low ≤ key id → AllFrom key low ids → AllFrom key low (insert_behind key id ids)
from_insert key low id [] here all = (here, tt)
from_insert key low id (first ∷ rest) here all =
    from_step (nat_lt (key id) (key first)) key low id first rest (insert_behind key id rest) here all (from_insert key low id rest here all.1)

rising_step : (b : Bool) (key : ℕ → ℕ) (id first : ℕ) (rest behind : List ℕ) → nat_lt (key id) (key first) ≡ b →
    IsRisingBy key (first ∷ rest) → (key first ≤ key id → AllFrom key (key first) behind) → IsRisingBy key behind → IsRisingBy key (cond b (id ∷ first ∷ rest) (first ∷ behind))
rising_step true key id first rest behind is rising more risen =
    let lower : key id ≤ key first = omega (arith, ltb-true (key id) (key first) is) in
    ((lower, from_lower key (key id) (key first) rest lower rising.0), rising)
rising_step false key id first rest behind is rising more risen = (more (ltb-false (key id) (key first) is), risen)

pub rising_insert : (key : ℕ → ℕ) (id : ℕ) (ids : List ℕ) → IsRisingBy key ids → IsRisingBy key (insert_behind key id ids)
rising_insert key id [] rising = (tt, tt)
rising_insert key id (first ∷ rest) rising =
    rising_step (nat_lt (key id) (key first)) key id first rest (insert_behind key id rest) refl rising
    (λ low. from_insert key (key first) id rest low rising.0) (rising_insert key id rest rising.1)

rising_onto : (key : ℕ → ℕ) (ids sorted : List ℕ) → IsRisingBy key sorted → IsRisingBy key (sorted_onto key sorted ids)
rising_onto key [] sorted rising = rising
rising_onto key (id ∷ ids) sorted rising = rising_onto key ids (insert_behind key id sorted) (rising_insert key id sorted rising)

-- what was sorted is in order
pub rising_sort : (key : ℕ → ℕ) (ids : List ℕ) → IsRisingBy key (sort_by key ids)
rising_sort key ids = rising_onto key ids [] tt

-- ---- what stands in a sorted list

times_step : (b : Bool) (n id first : ℕ) (rest behind : List ℕ) → times n behind ≡ cond (id == n) 1 0 + times n rest →
    times n (cond b (id ∷ first ∷ rest) (first ∷ behind)) ≡ cond (id == n) 1 0 + times n (first ∷ rest)
times_step true n id first rest behind more = refl
times_step false n id first rest behind more = omega arith

times_insert : (key : ℕ → ℕ) (n id : ℕ) (ids : List ℕ) → times n (insert_behind key id ids) ≡ cond (id == n) 1 0 + times n ids
times_insert key n id [] = refl
times_insert key n id (first ∷ rest) = times_step (nat_lt (key id) (key first)) n id first rest (insert_behind key id rest) (times_insert key n id rest)

times_onto : (key : ℕ → ℕ) (n : ℕ) (ids sorted : List ℕ) → times n (sorted_onto key sorted ids) ≡ times n sorted + times n ids
times_onto key n [] sorted = omega arith
times_onto key n (id ∷ ids) sorted =
    let rest = times_onto key n ids (insert_behind key id sorted) in
    let more = times_insert key n id sorted in
    omega arith

-- sorting leaves each number as often as it was
pub times_sort : (key : ℕ → ℕ) (n : ℕ) (ids : List ℕ) → times n (sort_by key ids) ≡ times n ids
times_sort key n ids = let all = times_onto key n ids [] in omega arith

-- ---- filters

pub here_is : {A : Type 0} (b : Bool) (first : A) (rest : List A) → b ≡ true → cond b (first ∷ rest) rest ≡ first ∷ rest
here_is true first rest is = refl
here_is false first rest is = absurd (cc is)

pub not_here : {A : Type 0} (b : Bool) (first : A) (rest : List A) → b ≡ false → cond b (first ∷ rest) rest ≡ rest
not_here true first rest is = absurd (cc is)
not_here false first rest is = refl

from_kept : (b : Bool) (key : ℕ → ℕ) (low id : ℕ) (passed : List ℕ) → low ≤ key id → AllFrom key low passed → AllFrom key low (cond b (id ∷ passed) passed)
from_kept true key low id passed here all = (here, all)
from_kept false key low id passed here all = all

from_filter : (passes : ℕ → Bool) (key : ℕ → ℕ) (low : ℕ) (ids : List ℕ) → AllFrom key low ids → AllFrom key low (filter passes ids)
from_filter passes key low [] all = tt
from_filter passes key low (id ∷ ids) all = from_kept (passes id) key low id (filter passes ids) all.0 (from_filter passes key low ids all.1)

-- an ID whose key is less than all others goes in front
insert_front : (key : ℕ → ℕ) (low id : ℕ) (ids : List ℕ) → key id < low → AllFrom key low ids → insert_behind key id ids ≡ id ∷ ids
insert_front key low id [] lower all = refl
insert_front key low id (first ∷ rest) lower all =
    let test : nat_lt (key id) (key first) ≡ true = let above = all.0 in grind (arith, nat_tests, above, lower) in
    rw test refl

kept_behind : (c : Bool) (key : ℕ → ℕ) (id first : ℕ) (passed behind : List ℕ) → nat_lt (key id) (key first) ≡ false → behind ≡ insert_behind key id passed →
    cond c (first ∷ behind) behind ≡ insert_behind key id (cond c (first ∷ passed) passed)
kept_behind true key id first passed behind is more = rw is (ap (λ ids. first ∷ ids) more)
kept_behind false key id first passed behind is more = more

kept_step : (b : Bool) (passes : ℕ → Bool) (key : ℕ → ℕ) (id first : ℕ) (rest behind : List ℕ) → nat_lt (key id) (key first) ≡ b → passes id ≡ true → IsRisingBy key (first ∷ rest) →
    filter passes behind ≡ insert_behind key id (filter passes rest) → filter passes (cond b (id ∷ first ∷ rest) (first ∷ behind)) ≡ insert_behind key id (filter passes (first ∷ rest))
kept_step true passes key id first rest behind is passed rising more =
    let lower : key id < key first = ltb-true (key id) (key first) is in
    let all : AllFrom key (key first) (first ∷ rest) = (omega arith, rising.0) in
    here_is (passes id) id (filter passes (first ∷ rest)) passed
    ∙ sym (insert_front key (key first) id (filter passes (first ∷ rest)) lower (from_filter passes key (key first) (first ∷ rest) all))
kept_step false passes key id first rest behind is passed rising more =
    kept_behind (passes first) key id first (filter passes rest) (filter passes behind) is more

filter_insert : (passes : ℕ → Bool) (key : ℕ → ℕ) (id : ℕ) (ids : List ℕ) → passes id ≡ true → IsRisingBy key ids → filter passes (insert_behind key id ids) ≡ insert_behind key id (filter passes ids)
filter_insert passes key id [] passed rising = here_is (passes id) id [] passed
filter_insert passes key id (first ∷ rest) passed rising =
    kept_step (nat_lt (key id) (key first)) passes key id first rest (insert_behind key id rest) refl passed rising (filter_insert passes key id rest passed rising.1)

left_step : (b : Bool) (passes : ℕ → Bool) (id first : ℕ) (rest behind : List ℕ) → passes id ≡ false → filter passes behind ≡ filter passes rest →
    filter passes (cond b (id ∷ first ∷ rest) (first ∷ behind)) ≡ filter passes (first ∷ rest)
left_step true passes id first rest behind fails more = not_here (passes id) id (filter passes (first ∷ rest)) fails
left_step false passes id first rest behind fails more = ap (λ ids. cond (passes first) (first ∷ ids) ids) more

pub filter_insert_left : (passes : ℕ → Bool) (key : ℕ → ℕ) (id : ℕ) (ids : List ℕ) → passes id ≡ false → filter passes (insert_behind key id ids) ≡ filter passes ids
filter_insert_left passes key id [] fails = not_here (passes id) id [] fails
filter_insert_left passes key id (first ∷ rest) fails = left_step (nat_lt (key id) (key first)) passes id first rest (insert_behind key id rest) fails (filter_insert_left passes key id rest fails)

onto_step : (b : Bool) (passes : ℕ → Bool) (key : ℕ → ℕ) (id : ℕ) (ids sorted : List ℕ) → passes id ≡ b → IsRisingBy key sorted →
    sorted_onto key (filter passes (insert_behind key id sorted)) ids ≡ sorted_onto key (filter passes sorted) (cond b (id ∷ ids) ids)
onto_step true passes key id ids sorted is rising = ap (λ front. sorted_onto key front ids) (filter_insert passes key id sorted is rising)
onto_step false passes key id ids sorted is rising = ap (λ front. sorted_onto key front ids) (filter_insert_left passes key id sorted is)

filter_onto : (passes : ℕ → Bool) (key : ℕ → ℕ) (ids sorted : List ℕ) → IsRisingBy key sorted → filter passes (sorted_onto key sorted ids) ≡ sorted_onto key (filter passes sorted) (filter passes ids)
filter_onto passes key [] sorted rising = refl
filter_onto passes key (id ∷ ids) sorted rising =
    filter_onto passes key ids (insert_behind key id sorted) (rising_insert key id sorted rising)
    ∙ onto_step (passes id) passes key id (filter passes ids) sorted refl rising

-- a stable sort commutes with a filter
pub filter_sort : (passes : ℕ → Bool) (key : ℕ → ℕ) (ids : List ℕ) → filter passes (sort_by key ids) ≡ sort_by key (filter passes ids)
filter_sort passes key ids = filter_onto passes key ids [] tt

swapped_step : {A : Type 0} (p q : Bool) (first : A) (rest : List A) (passes passed : A → Bool) → passes first ≡ p → passed first ≡ q →
    filter passes (filter passed rest) ≡ filter passed (filter passes rest) →
    filter passes (cond q (first ∷ filter passed rest) (filter passed rest)) ≡ filter passed (cond p (first ∷ filter passes rest) (filter passes rest))
swapped_step true true first rest passes passed is was same =
    here_is (passes first) first (filter passes (filter passed rest)) is ∙ (ap (λ l. first ∷ l) same ∙ sym (here_is (passed first) first (filter passed (filter passes rest)) was))
swapped_step true false first rest passes passed is was same = same ∙ sym (not_here (passed first) first (filter passed (filter passes rest)) was)
swapped_step false true first rest passes passed is was same = not_here (passes first) first (filter passes (filter passed rest)) is ∙ same
swapped_step false false first rest passes passed is was same = same

-- it doesn't matter which of two filters comes first
pub filters_swap : {A : Type 0} (passes passed : A → Bool) (list : List A) → filter passes (filter passed list) ≡ filter passed (filter passes list)
filters_swap passes passed [] = refl
filters_swap passes passed (first ∷ rest) = swapped_step (passes first) (passed first) first rest passes passed refl refl (filters_swap passes passed rest)

-- ---- one more ID, and other keys

-- sorting goes from the front to the back
pub sort_behind : (key : ℕ → ℕ) (id : ℕ) (ids : List ℕ) → sort_by key (ids ++ id ∷ []) ≡ insert_behind key id (sort_by key ids)
sort_behind key id ids = fold-append (λ sorted id. insert_behind key id sorted) [] ids (id ∷ [])

-- two keys that are the same on each of these IDs
abbrev pub AllAlike : (ℕ → ℕ) → (ℕ → ℕ) → List ℕ → Type 0
AllAlike key other [] = Unit {0}
AllAlike key other (id ∷ ids) = (key id ≡ other id) × AllAlike key other ids

alike_step : (b : Bool) (key other : ℕ → ℕ) (id first : ℕ) (rest behind : List ℕ) → key id ≡ other id → AllAlike key other (first ∷ rest) → AllAlike key other behind → AllAlike key other (cond b (id ∷ first ∷ rest) (first ∷ behind))
alike_step true key other id first rest behind here all more = (here, all)
alike_step false key other id first rest behind here all more = (all.0, more)

alike_insert : (key other : ℕ → ℕ) (id : ℕ) (ids : List ℕ) → key id ≡ other id → AllAlike key other ids → AllAlike key other (insert_behind key id ids)
alike_insert key other id [] here all = (here, tt)
alike_insert key other id (first ∷ rest) here all = alike_step (nat_lt (key id) (key first)) key other id first rest (insert_behind key id rest) here all (alike_insert key other id rest here all.1)

insert_alike : (key other : ℕ → ℕ) (id : ℕ) (ids : List ℕ) → key id ≡ other id → AllAlike key other ids → insert_behind key id ids ≡ insert_behind other id ids
insert_alike key other id [] here all = refl
insert_alike key other id (first ∷ rest) here all =
    let there = all.0 in
    let more = insert_alike key other id rest here all.1 in
    let test : nat_lt (key id) (key first) ≡ nat_lt (other id) (other first) = rw (here, there) refl in
    rw (test, more) refl

onto_alike : (key other : ℕ → ℕ) (ids sorted : List ℕ) → AllAlike key other sorted → AllAlike key other ids → sorted_onto key sorted ids ≡ sorted_onto other sorted ids
onto_alike key other [] sorted all more = refl
onto_alike key other (id ∷ ids) sorted all more =
    onto_alike key other ids (insert_behind key id sorted) (alike_insert key other id sorted more.0 all) more.1
    ∙ ap (λ front. sorted_onto other front ids) (insert_alike key other id sorted more.0 all)

-- keys that are the same on each ID sort alike
pub sort_alike : (key other : ℕ → ℕ) (ids : List ℕ) → AllAlike key other ids → sort_by key ids ≡ sort_by other ids
sort_alike key other ids all = onto_alike key other ids [] tt all

-- ---- equal keys

insert_last : (key : ℕ → ℕ) (id : ℕ) (ids : List ℕ) (level : ℕ) → key id ≡ level → AllAlike key (λ n. level) ids → insert_behind key id ids ≡ ids ++ id ∷ []
insert_last key id [] level here all = refl
insert_last key id (first ∷ rest) level here all =
    let there = all.0 in
    let more = insert_last key id rest level here all.1 in
    let test : nat_lt (key id) (key first) ≡ false = grind (arith, nat_tests, here, there) in
    rw (test, more) refl

alike_kept : (b : Bool) (key other : ℕ → ℕ) (id : ℕ) (passed : List ℕ) → (b ≡ true → key id ≡ other id) → AllAlike key other passed → AllAlike key other (cond b (id ∷ passed) passed)
alike_kept true key other id passed here all = (here refl, all)
alike_kept false key other id passed here all = all

-- keys that are the same on each ID that passes a test
pub alike_filter : (passes : ℕ → Bool) (key other : ℕ → ℕ) (ids : List ℕ) → ((n : ℕ) → passes n ≡ true → key n ≡ other n) → AllAlike key other (filter passes ids)
alike_filter passes key other [] same = tt
alike_filter passes key other (id ∷ ids) same = alike_kept (passes id) key other id (filter passes ids) (same id) (alike_filter passes key other ids same)

last_onto : (key : ℕ → ℕ) (level : ℕ) (ids sorted : List ℕ) → AllAlike key (λ n. level) sorted → AllAlike key (λ n. level) ids → sorted_onto key sorted ids ≡ sorted ++ ids
last_onto key level [] sorted all more = sym (append-nil sorted)
last_onto key level (id ∷ ids) sorted all more =
    let last = insert_last key id sorted level more.0 all in
    last_onto key level ids (insert_behind key id sorted) (alike_insert key (λ n. level) id sorted more.0 all) more.1
    ∙ (ap (λ front. front ++ ids) last ∙ append_assoc sorted (id ∷ []) ids)

-- a sort leaves those of one key in the order in which they were
pub sort_level : (key : ℕ → ℕ) (level : ℕ) (ids : List ℕ) → sort_by key (filter (λ n. key n == level) ids) ≡ filter (λ n. key n == level) ids
sort_level key level ids = last_onto key level (filter (λ n. key n == level) ids) [] tt (alike_filter (λ n. key n == level) key (λ n. level) ids (λ n is. grind (arith, nat_tests, is)))
