-- What has passed in a run and in more of it.
use Rattle.std.proofs.Common.{◌≡◌, ℕ, ◌+◌, ◌≤◌, Bool, true, false, cond, List, [], ◌∷◌, ◌++◌, length, map, refl, ap, sym, ◌∙◌, arith}
use Rattle.std.specs.Bool.{◌==◌}
use Rattle.device_model.specs.declared.messages.Ending.{Ending}
use Rattle.device_model.specs.declared.messages.Message.{Message}
use Rattle.fleet_model.specs.Fleets.{device_of}
use Rattle.run_model.specs.Passings.{Gives, Passing, Takes, endings_of, given_from, messages_to}
use Rattle.run_model.specs.SoFar.{messages_for}
use Rattle.run_model.specs.Told.{EachAtMost}

-- ---- messages

to_if : (is : Bool) (m : Message) (xs ys later : List Message) → xs ≡ ys ++ later → cond is (m ∷ xs) xs ≡ cond is (m ∷ ys) ys ++ later
to_if true m xs ys later same = ap (λ (l : List Message). m ∷ l) same
to_if false m xs ys later same = same

pub to_append : (d : ℕ) (run more : List Passing) → messages_to d (run ++ more) ≡ messages_to d run ++ messages_to d more
unfolding messages_to
to_append d [] more = refl
to_append d (Gives m ∷ run) more = to_if (device_of m == d) m (messages_to d (run ++ more)) (messages_to d run) (messages_to d more) (to_append d run more)
to_append d (Takes e ∷ run) more = to_append d run more

pub to_given : (d : ℕ) (ms : List Message) → messages_to d (map Gives ms) ≡ messages_for d ms
unfolding messages_to messages_for
to_given d [] = refl
to_given d (m ∷ ms) = ap (λ (l : List Message). cond (device_of m == d) (m ∷ l) l) (to_given d ms)

-- ---- endings

of_if : (is : Bool) (e : Ending) (xs ys later : List Ending) → xs ≡ ys ++ later → cond is (e ∷ xs) xs ≡ cond is (e ∷ ys) ys ++ later
of_if true e xs ys later same = ap (λ (l : List Ending). e ∷ l) same
of_if false e xs ys later same = same

pub of_append : (d : ℕ) (run more : List Passing) → endings_of d (run ++ more) ≡ endings_of d run ++ endings_of d more
unfolding endings_of
of_append d [] more = refl
of_append d (Gives m ∷ run) more = of_append d run more
of_append d (Takes e ∷ run) more = of_if (e.device == d) e (endings_of d (run ++ more)) (endings_of d run) (endings_of d more) (of_append d run more)

pub of_given : (d : ℕ) (ms : List Message) → endings_of d (map Gives ms) ≡ []
unfolding endings_of
of_given d [] = refl
of_given d (m ∷ ms) = of_given d ms

-- ---- how many were given by then

-- the count behind a message
abbrev count_if : Bool → ℕ → ℕ
count_if is n = cond is (n + 1) n

size_if : (is : Bool) (n : ℕ) (m : Message) (ms : List Message) → n + length (cond is (m ∷ ms) ms) ≡ count_if is n + length ms
size_if true n m ms = omega arith
size_if false n m ms = refl

at_if : (is : Bool) (n : ℕ) (xs ys later : List ℕ) → xs ≡ ys ++ later → cond is (n ∷ xs) xs ≡ cond is (n ∷ ys) ys ++ later
at_if true n xs ys later same = ap (λ (l : List ℕ). n ∷ l) same
at_if false n xs ys later same = same

pub at_append : (n d : ℕ) (run more : List Passing) → given_from n d (run ++ more) ≡ given_from n d run ++ given_from (n + length (messages_to d run)) d more
unfolding given_from messages_to
at_append n d [] more = ap (λ (k : ℕ). given_from k d more) (omega arith)
at_append n d (Gives m ∷ run) more =
    at_append (count_if (device_of m == d) n) d run more
    ∙ ap (λ (k : ℕ). given_from (count_if (device_of m == d) n) d run ++ given_from k d more) (sym (size_if (device_of m == d) n m (messages_to d run)))
at_append n d (Takes e ∷ run) more =
    at_if (e.device == d) n (given_from n d (run ++ more)) (given_from n d run) (given_from (n + length (messages_to d run)) d more) (at_append n d run more)

pub at_given : (n d : ℕ) (ms : List Message) → given_from n d (map Gives ms) ≡ []
unfolding given_from
at_given n d [] = refl
at_given n d (m ∷ ms) = at_given (count_if (device_of m == d) n) d ms

-- ---- each at most

pub each_more : (ns mosts : List ℕ) (n most : ℕ) → EachAtMost ns mosts → n ≤ most → EachAtMost (ns ++ n ∷ []) (mosts ++ most ∷ [])
unfolding EachAtMost
each_more [] [] n most all one = (one, tt)
each_more [] (m ∷ mosts) n most all one = absurd all
each_more (x ∷ ns) [] n most all one = absurd all
each_more (x ∷ ns) (m ∷ mosts) n most all one = (all.0, each_more ns mosts n most all.1 one)
