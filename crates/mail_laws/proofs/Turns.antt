-- The messages of a mailbox stand in the order in which they go.
use Rattle.std.proofs.Common.{◌≡◌, ℕ, zero, suc, Bool, true, false, cond, List, [], ◌∷◌, ◌++◌, append-nil, Option, Some, None, refl, ◌∙◌, ap, sym, subst, ℤ, pos, negsuc, arith}
use Rattle.std.specs.Prelude.{int_lt, filter, replicate}
use Rattle.std.specs.Ordering.{int_eq}
use Rattle.std.proofs.lemmas.Bool.Decides.{nat_tests}
use Rattle.kernel_lemmas.proofs.Tables.{entry_each, entry_same}
use Rattle.object_model.specs.declared.mails.Message.{Message}
use Rattle.kernel_model.specs.Words.Orders.{entry}
use Rattle.object_model.specs.Mails.Tables.{Mailbox, Mails, mails_start, with_box}
use Rattle.object_model.specs.Mails.Boxes.{by_priority, put_in}
use Rattle.object_model.specs.Mails.Calls.{new_box}
use Rattle.mail_laws.specs.Turns.{NoneBefore, StandByPriority, StandIf, IsInTurn, AreInTurn}
use Rattle.mail_laws.proofs.Keeps.{IsKept}

-- ---- signed numbers

before_not_behind : (a b : ℤ) → int_lt a b ≡ true → int_lt b a ≡ false
before_not_behind (pos a) (pos b) is = grind (arith, nat_tests, is)
before_not_behind (pos a) (negsuc b) is = absurd (cc is)
before_not_behind (negsuc a) (pos b) is = refl
before_not_behind (negsuc a) (negsuc b) is = grind (arith, nat_tests, is)

not_before_either : (a b c : ℤ) → int_lt b a ≡ false → int_lt c b ≡ false → int_lt c a ≡ false
not_before_either (pos a) (pos b) (pos c) one two = grind (arith, nat_tests, one, two)
not_before_either (pos a) (pos b) (negsuc c) one two = absurd (cc two)
not_before_either (pos a) (negsuc b) c one two = absurd (cc one)
not_before_either (negsuc a) (pos b) (pos c) one two = refl
not_before_either (negsuc a) (pos b) (negsuc c) one two = absurd (cc two)
not_before_either (negsuc a) (negsuc b) (pos c) one two = refl
not_before_either (negsuc a) (negsuc b) (negsuc c) one two = grind (arith, nat_tests, one, two)

before_each : (a b c : ℤ) → int_lt a b ≡ true → int_lt c b ≡ false → int_lt a c ≡ true
before_each (pos a) (pos b) (pos c) one two = grind (arith, nat_tests, one, two)
before_each (pos a) (pos b) (negsuc c) one two = absurd (cc two)
before_each (pos a) (negsuc b) c one two = absurd (cc one)
before_each (negsuc a) (pos b) (pos c) one two = refl
before_each (negsuc a) (pos b) (negsuc c) one two = absurd (cc two)
before_each (negsuc a) (negsuc b) (pos c) one two = refl
before_each (negsuc a) (negsuc b) (negsuc c) one two = grind (arith, nat_tests, one, two)

before_other : (a b : ℤ) → int_lt a b ≡ true → int_eq b a ≡ false
before_other (pos a) (pos b) is = grind (arith, nat_tests, is)
before_other (pos a) (negsuc b) is = absurd (cc is)
before_other (negsuc a) (pos b) is = refl
before_other (negsuc a) (negsuc b) is = grind (arith, nat_tests, is)

irreflexive : (a : ℤ) → int_lt a a ≡ false
irreflexive (pos a) = grind (arith, nat_tests)
irreflexive (negsuc a) = grind (arith, nat_tests)

-- ---- a message takes its place

none_before_more : (a b : ℤ) (messages : List Message) → int_lt b a ≡ false → NoneBefore b messages → NoneBefore a messages
none_before_more a b [] below none = tt
none_before_more a b (message ∷ messages) below none = (not_before_either a b message.priority below none.0, none_before_more a b messages below none.1)

none_before_if : (priority : ℤ) (message first : Message) (rest placed : List Message) (test : Bool) → int_lt message.priority priority ≡ false → NoneBefore priority (first ∷ rest) → NoneBefore priority placed →
    NoneBefore priority (cond test (message ∷ first ∷ rest) (first ∷ placed))
none_before_if priority message first rest placed true own none later = (own, none)
none_before_if priority message first rest placed false own none later = (none.0, later)

none_before_placed : (priority : ℤ) (message : Message) (messages : List Message) → int_lt message.priority priority ≡ false → NoneBefore priority messages → NoneBefore priority (by_priority message messages)
none_before_placed priority message [] own none = (own, tt)
none_before_placed priority message (first ∷ rest) own none =
    none_before_if priority message first rest (by_priority message rest) (int_lt message.priority first.priority) own none (none_before_placed priority message rest own none.1)

placed_if : (message first : Message) (rest : List Message) (test : Bool) → int_lt message.priority first.priority ≡ test → StandByPriority (first ∷ rest) → StandByPriority (by_priority message rest) →
    StandByPriority (cond test (message ∷ first ∷ rest) (first ∷ by_priority message rest))
placed_if message first rest true is stand later =
    let behind : int_lt first.priority message.priority ≡ false = before_not_behind message.priority first.priority is in
    ((behind, none_before_more message.priority first.priority rest behind stand.0), stand)
placed_if message first rest false is stand later = (none_before_placed first.priority message rest is stand.0, later)

pub placed_stand : (message : Message) (messages : List Message) → StandByPriority messages → StandByPriority (by_priority message messages)
placed_stand message [] stand = (tt, tt)
placed_stand message (first ∷ rest) stand = placed_if message first rest (int_lt message.priority first.priority) refl stand (placed_stand message rest stand.1)

-- ---- equals stand in the order in which they were sent

drops : (test : Bool) (x : Message) (xs : List Message) → test ≡ false → cond test (x ∷ xs) xs ≡ xs
drops true x xs is = absurd (cc is)
drops false x xs is = refl

-- behind a message of a higher priority there is none of that priority
none_equal : (priority own : ℤ) (messages : List Message) → int_lt priority own ≡ true → NoneBefore own messages → filter (λ (m : Message). int_eq m.priority priority) messages ≡ []
none_equal priority own [] before none = refl
none_equal priority own (message ∷ messages) before none =
    drops (int_eq message.priority priority) message (filter (λ (m : Message). int_eq m.priority priority) messages) (before_other priority message.priority (before_each priority own message.priority before none.0))
    ∙ none_equal priority own messages before none.1

equal_of : (a b : ℤ) → int_eq a b ≡ true → a ≡ b
equal_of (pos a) (pos b) is = let same : a ≡ b = grind (arith, nat_tests, is) in ap pos same
equal_of (pos a) (negsuc b) is = absurd (cc is)
equal_of (negsuc a) (pos b) is = absurd (cc is)
equal_of (negsuc a) (negsuc b) is = let same : a ≡ b = grind (arith, nat_tests, is) in ap negsuc same

in_front_if : (priority : ℤ) (message first : Message) (rest : List Message) (test : Bool) → int_eq message.priority priority ≡ test → int_lt message.priority first.priority ≡ true → StandByPriority (first ∷ rest) →
    cond test (message ∷ filter (λ (m : Message). int_eq m.priority priority) (first ∷ rest)) (filter (λ (m : Message). int_eq m.priority priority) (first ∷ rest))
    ≡ filter (λ (m : Message). int_eq m.priority priority) (first ∷ rest) ++ cond test (message ∷ []) []
in_front_if priority message first rest true is before stand =
    let same : message.priority ≡ priority = equal_of message.priority priority is in
    let lower : int_lt priority first.priority ≡ true = ap (λ p. int_lt p first.priority) (sym same) ∙ before in
    let own : int_lt first.priority first.priority ≡ false = irreflexive first.priority in
    let none : filter (λ (m : Message). int_eq m.priority priority) (first ∷ rest) ≡ [] = none_equal priority first.priority (first ∷ rest) lower (own, stand.0) in
    ap (λ kept. message ∷ kept) none ∙ ap (λ kept. kept ++ message ∷ []) (sym none)
in_front_if priority message first rest false is before stand = sym (append-nil (filter (λ (m : Message). int_eq m.priority priority) (first ∷ rest)))

kept_front : (test : Bool) (first : Message) (more front last : List Message) → more ≡ front ++ last → cond test (first ∷ more) more ≡ cond test (first ∷ front) front ++ last
kept_front true first more front last is = ap (λ xs. first ∷ xs) is
kept_front false first more front last is = is

equals_if : (priority : ℤ) (message first : Message) (rest : List Message) (test : Bool) → int_lt message.priority first.priority ≡ test → StandByPriority (first ∷ rest)
    → filter (λ (m : Message). int_eq m.priority priority) (by_priority message rest) ≡ filter (λ (m : Message). int_eq m.priority priority) rest ++ cond (int_eq message.priority priority) (message ∷ []) []
    → filter (λ (m : Message). int_eq m.priority priority) (cond test (message ∷ first ∷ rest) (first ∷ by_priority message rest))
    ≡ filter (λ (m : Message). int_eq m.priority priority) (first ∷ rest) ++ cond (int_eq message.priority priority) (message ∷ []) []
equals_if priority message first rest true is stand later = in_front_if priority message first rest (int_eq message.priority priority) refl is stand
equals_if priority message first rest false is stand later =
    kept_front (int_eq first.priority priority) first (filter (λ (m : Message). int_eq m.priority priority) (by_priority message rest)) (filter (λ (m : Message). int_eq m.priority priority) rest) (cond (int_eq message.priority priority) (message ∷ []) []) later

pub equals_behind : (priority : ℤ) (message : Message) (messages : List Message) → StandByPriority messages →
    filter (λ (m : Message). int_eq m.priority priority) (by_priority message messages)
    ≡ filter (λ (m : Message). int_eq m.priority priority) messages ++ cond (int_eq message.priority priority) (message ∷ []) []
equals_behind priority message [] stand = refl
equals_behind priority message (first ∷ rest) stand = equals_if priority message first rest (int_lt message.priority first.priority) refl stand (equals_behind priority message rest stand.1)

-- ---- of all boxes

written : (m : Mails) (id : ℕ) (slot : Option Mailbox) → AreInTurn m → IsInTurn slot → AreInTurn (with_box m id slot)
written m id slot turns turn = entry_each (λ j (o : Option Mailbox). IsInTurn o) m.boxes id slot (entry_same IsInTurn m.boxes id slot turn tt) (λ j apart. turns j)

put_if : (ordered : Bool) (message : Message) (messages : List Message) → StandIf ordered messages → StandIf ordered (cond ordered (by_priority message messages) (messages ++ message ∷ []))
put_if true message messages stand = placed_stand message messages stand
put_if false message messages stand = tt

rest_if : (ordered : Bool) (first : Message) (rest messages : List Message) → messages ≡ first ∷ rest → StandIf ordered messages → StandIf ordered rest
rest_if true first rest messages is stand = let whole : StandByPriority (first ∷ rest) = subst StandByPriority is stand in whole.1
rest_if false first rest messages is stand = tt

empty_if : (ordered : Bool) → StandIf ordered []
empty_if true = tt
empty_if false = tt

pub turns_kept : IsKept AreInTurn
turns_kept = record {
  to_send = λ m t bytes turns. turns;
  to_receive = λ m t address turns. turns;
  stored = λ m id k bytes at fits turns. turns;
  taken = λ m id k oldest later at is turns. turns;
  new_buffer = λ m id attributes size most turns. turns;
  no_buffer = λ m id turns. turns;
  put = λ m id k message at turns. written m id (Some (put_in k message)) turns (put_if k.by_priority message k.messages (subst IsInTurn at (turns id)));
  rest = λ m id k first rest at is turns. written m id (Some (record k { messages = rest })) turns (rest_if k.by_priority first rest k.messages is (subst IsInTurn at (turns id)));
  new_box = λ m id attributes turns. written m id (Some (new_box attributes)) turns (empty_if attributes.ta_mpri);
  no_box = λ m id turns. written m id None turns tt;
}

-- a table without a box has none out of turn
none_there : (n id : ℕ) → entry (replicate {A = Option Mailbox} n None) id ≡ None
none_there zero id = refl
none_there (suc n) zero = refl
none_there (suc n) (suc id) = none_there n id

pub start_turns : AreInTurn mails_start
start_turns id = subst IsInTurn (sym (none_there 65 id)) tt
