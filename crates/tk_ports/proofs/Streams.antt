-- How the words on streams compose, over plain variables: one call and another behind it, as a loop makes them.
use Rattle.std.proofs.Common.{◌≡◌, ℕ, ◌+◌, ◌<◌, ◌≤◌, min, List, [], ◌++◌, length, take, Option, None, Some, IfSome, inl, inr, refl, sym, ap, ◌∙◌, arith}
use Rattle.std.proofs.lemmas.List.{append-nil, append_assoc, length-take, length-take-le, take_at, take_all}
use Rattle.tk_ports.specs.Streams.{Appends, AppendsFront, TakesFront, TakesWithin, IsUsedUp, Rose, Counts, CountsWithin}

-- ---- what a sink took

-- nothing was taken
pub appends_none : (held : Option (List ℕ)) → Appends held held []
appends_none None = tt
appends_none (Some bytes) = ap Some (sym (append-nil bytes))

-- two takings, one behind the other
pub appends_append : (old mid new : Option (List ℕ)) (first second : List ℕ) → Appends old mid first → Appends mid new second → Appends old new (first ++ second)
appends_append None mid new first second p q = tt
appends_append (Some held) mid new first second p q = (rw p at q) ∙ ap Some (append_assoc held first second)

-- all is a front of itself
pub front_of_all : (old new : Option (List ℕ)) (bytes : List ℕ) → Appends old new bytes → AppendsFront old new bytes
front_of_all None new bytes p = tt
front_of_all (Some held) new bytes p = (bytes, [], append-nil bytes, p)

-- what was taken is a front of all
pub front_of_part : (old new : Option (List ℕ)) (front rest bytes : List ℕ) → Appends old new front → front ++ rest ≡ bytes → AppendsFront old new bytes
front_of_part None new front rest bytes p e = tt
front_of_part (Some held) new front rest bytes p e = (front, rest, e, p)

-- nothing is a front of all
pub front_none : (held : Option (List ℕ)) (bytes : List ℕ) → AppendsFront held held bytes
front_none held bytes = front_of_part held held [] bytes bytes (appends_none held) refl

-- a front that was taken behind a first part is a front of both
pub front_behind : (old mid new : Option (List ℕ)) (first second : List ℕ) → Appends old mid first → AppendsFront mid new second → AppendsFront old new (first ++ second)
front_behind None mid new first second p q = tt
front_behind (Some held) mid new first second p q =
    let behind : AppendsFront (Some (held ++ first)) new second = rw p at q in (
      first ++ behind.0,
      behind.1,
      append_assoc first behind.0 behind.1 ∙ ap (λ l. first ++ l) behind.2,
      behind.3 ∙ ap Some (append_assoc held first behind.0),
    )

-- a front of a first part is a front of both
pub front_within : (old new : Option (List ℕ)) (first second : List ℕ) → AppendsFront old new first → AppendsFront old new (first ++ second)
front_within None new first second p = tt
front_within (Some held) new first second p =
    (p.0, p.1 ++ second, sym (append_assoc p.0 p.1 second) ∙ ap (λ l. l ++ second) p.2, p.3)

-- ---- what a source gave

-- nothing was given
pub takes_none : (left : Option (List ℕ)) → TakesFront left left []
takes_none None = tt
takes_none (Some bytes) = (bytes, refl, refl)

-- two givings, one behind the other
pub takes_behind : (old mid new : Option (List ℕ)) (first second : List ℕ) → TakesFront old mid first → TakesFront mid new second → TakesFront old new (first ++ second)
takes_behind None mid new first second p q = tt
takes_behind (Some bytes) mid new first second p q =
    let behind : TakesFront (Some p.0) new second = rw p.2 at q in
    (behind.0, p.1 ∙ ap (λ l. first ++ l) behind.1 ∙ sym (append_assoc first second behind.0), behind.2)

-- a source that was used up gave all
pub takes_all : (old new : Option (List ℕ)) (bytes : List ℕ) → TakesFront old new bytes → IsUsedUp new → IfSome old (λ input. input ≡ bytes)
takes_all None new bytes p e = tt
takes_all (Some input) new bytes p e =
    let none : IsUsedUp (Some p.0) = rw p.2 at e in
    p.1 ∙ ap (λ l. bytes ++ l) none ∙ append-nil bytes

-- the input up to a limit, by a source that was used up below it
pub takes_all_within : (old new : Option (List ℕ)) (bytes : List ℕ) (most : ℕ) → TakesFront old new bytes → IsUsedUp new → length bytes ≤ most
    → IfSome old (λ input. bytes ≡ take most input)
takes_all_within None new bytes most p e b = tt
takes_all_within (Some input) new bytes most p e b =
    sym (ap (take most) (takes_all (Some input) new bytes p e) ∙ take_all most bytes b)

-- the input up to a limit, which the bytes reach
pub takes_up_to : (old new : Option (List ℕ)) (bytes : List ℕ) (most : ℕ) → TakesFront old new bytes → length bytes ≡ most
    → IfSome old (λ input. bytes ≡ take most input)
takes_up_to None new bytes most p e = tt
takes_up_to (Some input) new bytes most p e = sym (ap (take most) p.1 ∙ take_at bytes p.0 most e)

-- an input within its limit is what was read, where one byte more was asked for
pub whole_within : (input bytes : List ℕ) (limit : ℕ) → bytes ≡ take (limit + 1) input → length input ≤ limit → bytes ≡ input
whole_within input bytes limit e h = e ∙ take_all (limit + 1) input (omega arith)

-- so is an input of which no more than the limit was read
pub whole_read : (input bytes : List ℕ) (limit : ℕ) → bytes ≡ take (limit + 1) input → length bytes ≤ limit → bytes ≡ input
whole_read input bytes limit e h =
    let size : length bytes ≡ min (limit + 1) (length input) = ap length e ∙ length-take (limit + 1) input in
    whole_within input bytes limit e (omega arith)

-- of an input past its limit one byte more was read
pub past_limit : (input bytes : List ℕ) (limit : ℕ) → bytes ≡ take (limit + 1) input → limit < length input → length bytes ≡ limit + 1
past_limit input bytes limit e h = ap length e ∙ length-take-le (limit + 1) input (omega arith)

-- a front of known length, in so many turns
pub takes_within : (old new : Option (List ℕ)) (turns count : Option ℕ) (bytes : List ℕ) (most : ℕ) → TakesFront old new bytes → length bytes ≤ most
    → CountsWithin turns count (length bytes + 1) → TakesWithin old new turns count most
takes_within None new turns count bytes most p b t = tt
takes_within (Some input) new turns count bytes most p b t = (bytes, p.0, p.1, p.2, b, t)

-- ---- counts

-- no turn was counted
pub counts_none : (turns : Option ℕ) → CountsWithin turns turns 0
counts_none None = refl
counts_none (Some turns) = omega arith

-- one turn more
pub counts_one_more : (old mid new : Option ℕ) (most : ℕ) → CountsWithin old mid most → Counts mid new → CountsWithin old new (most + 1)
counts_one_more None None new most p q = q
counts_one_more None (Some turns) new most p q = absurd (cc)
counts_one_more (Some before) None None most p q = tt
counts_one_more (Some before) None (Some count) most p q = absurd (cc)
counts_one_more (Some before) (Some turns) None most p q = tt
counts_one_more (Some before) (Some turns) (Some count) most p q = omega (arith, p, q)

-- turns behind turns
pub counts_behind : (old mid new : Option ℕ) (first second : ℕ) → CountsWithin old mid first → CountsWithin mid new second → CountsWithin old new (first + second)
counts_behind None None new first second p q = q
counts_behind None (Some turns) new first second p q = absurd (cc)
counts_behind (Some before) None None first second p q = tt
counts_behind (Some before) None (Some count) first second p q = absurd (cc)
counts_behind (Some before) (Some turns) None first second p q = tt
counts_behind (Some before) (Some turns) (Some count) first second p q = omega (arith, p, q)

-- a greater bound
pub counts_within : (old new : Option ℕ) (few many : ℕ) → CountsWithin old new few → few ≤ many → CountsWithin old new many
counts_within None new few many p h = p
counts_within (Some before) None few many p h = tt
counts_within (Some before) (Some count) few many p h = omega (arith, p, h)

-- a count that rose behind one that did not fall
pub rose_behind : (old mid new : ℕ) → old ≤ mid → Rose mid new → Rose old new
rose_behind old mid new h (inl p) = inl (omega arith)
rose_behind old mid new h (inr p) = inr p

-- a count that rose, and then did not fall
pub rose_before : (old mid new : ℕ) → Rose old mid → mid ≤ new → new ≤ 18446744073709551615 → Rose old new
rose_before old mid new (inl p) h b = inl (omega arith)
rose_before old mid new (inr p) h b = inr (omega arith)
