-- What a result that is known says of the steps that gave it.
use Rattle.std.proofs.Common.{◌≡◌, inl, inr, refl, Bool, true, false, not, cond, ◌&&◌, Option, Some, None, Result, Ok, Err}
use Rattle.std.specs.Prelude.{◌⊎◌}
use Rattle.std.specs.Option.{is_some}
use Rattle.tk_types.specs.declared.why.Why.{Why}
use Rattle.tk_raw.specs.Pieces.{◌>>=◌}

-- a step behind another
pub bind_ok : {A B : Type 0} (read : Result A Why) (next : A → Result B Why) (y : B) → (read >>= next) ≡ Ok y → (x : A) × (read ≡ Ok x) × (next x ≡ Ok y)
bind_ok (Ok x) next y e = (x, refl, e)
bind_ok (Err why) next y e = absurd (cc)

abbrev pub fine : {A : Type 0} → A → Result A Why
fine x = Ok x

pub ok_is : {A : Type 0} (x y : A) → fine x ≡ fine y → x ≡ y
ok_is x y e = cc

pub some_is : {A : Type 0} (x y : A) → Some x ≡ Some y → x ≡ y
some_is x y e = cc

-- a test that has to pass, and one that has to fail
pub passed : {A E : Type 0} (b : Bool) (read : Result A E) (why : E) (y : A) → cond b read (Err why) ≡ Ok y → (b ≡ true) × (read ≡ Ok y)
passed true read why y e = (refl, e)
passed false read why y e = absurd (cc)

pub not_failed : {A E : Type 0} (b : Bool) (read : Result A E) (why : E) (y : A) → cond b (Err why) read ≡ Ok y → (b ≡ false) × (read ≡ Ok y)
not_failed true read why y e = absurd (cc)
not_failed false read why y e = (refl, e)

-- which way a choice went
pub went : {A : Type 0} (b : Bool) (x y z : A) → cond b x y ≡ z → ((b ≡ true) × (x ≡ z)) ⊎ ((b ≡ false) × (y ≡ z))
went true x y z e = inl (refl, e)
went false x y z e = inr (refl, e)

pub some_passed : {A : Type 0} (b : Bool) (read : Option A) (y : A) → cond b read None ≡ Some y → (b ≡ true) × (read ≡ Some y)
some_passed true read y e = (refl, e)
some_passed false read y e = absurd (cc)

pub both_true : (a b : Bool) → (a && b) ≡ true → (a ≡ true) × (b ≡ true)
both_true true b e = (refl, e)
both_true false b e = absurd (cc)

pub both : (a b : Bool) → a ≡ true → b ≡ true → (a && b) ≡ true
both a b e f = rw (e, f) refl

pub false_of_not : (b : Bool) → not b ≡ true → b ≡ false
false_of_not true e = absurd (cc)
false_of_not false e = refl

pub false_unless : (b : Bool) → (b ≡ true → ⊥) → b ≡ false
false_unless true never = absurd (never refl)
false_unless false never = refl

pub none_of : {A : Type 0} (read : Option A) → is_some read ≡ false → read ≡ None
none_of None e = refl
none_of (Some x) e = absurd (cc)

pub some_of : {A : Type 0} (read : Option A) → is_some read ≡ true → (x : A) × (read ≡ Some x)
some_of None e = absurd (cc)
some_of (Some x) e = (x, refl)
