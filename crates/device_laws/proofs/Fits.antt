-- An ending arrives exactly where it is the one that is expected, but for the number of messages that were taken and the room of
-- its bytes.
use Rattle.std.proofs.Common.{◌≡◌, ℕ, Bool, true, false, Option, Some, None, refl, ap, sym, ◌∙◌}
use Rattle.std.specs.Prelude.{if◌then◌else◌, ◌==◌, ◌&&◌, bytes_eq}
use Rattle.std.specs.Option.{is_some}
use Rattle.std.proofs.lemmas.Bool.Decides.{Decides-eqb, Decides-int_eq}
use Rattle.std.proofs.lemmas.Slice.Eq.{bytes_eq-Decides}
use Rattle.tk_types.specs.declared.error_code.Er.{Er}
use Rattle.tk_types.specs.declared.error_code.Er.TheVariants.{Par}
use Rattle.tk_types.specs.declared.line.How.{How}
use Rattle.tk_types.specs.Codes.{code_of, coded}
use Rattle.device_model.specs.declared.messages.Ending.{Ending}
use Rattle.device_model.specs.declared.messages.Request.{Request}
use Rattle.device_model.specs.Units.Function.{Served}
use Rattle.device_model.specs.Devices.Tables.{Given, Link, Row, is_at_driver, link_at, row_at}
use Rattle.device_model.specs.Devices.Endings.{DevParts, arrive, arrive_fit, arrive_given, arrive_link, arrive_row, bytes_back, ending_of, expected, expected_given, expected_link, is_allowed, is_error, is_fit, landed, says, served_of}
use Rattle.device_laws.specs.Requests.{AreTied, IsAway}
use Rattle.device_laws.specs.Words.{WasExpected, but_for}

both : (one other : Bool) → (one && other) ≡ true → (one ≡ true) × (other ≡ true)
both true other is = (refl, is)
both false other is = absurd (cc is)

and_true : (one other : Bool) → one ≡ true → other ≡ true → (one && other) ≡ true
and_true true other is also = also
and_true false other is also = absurd (cc is)

-- no two errors have one code
coded_back : (error : Er) → coded (code_of error) ≡ Some error
unfolding code_of coded
coded_back Par = refl
coded_back _ = refl

abbrev error_or : Option Er → Er → Er
error_or None otherwise = otherwise
error_or (Some error) otherwise = error

same_error : (one other : Er) → is_error one other ≡ true → one ≡ other
same_error one other is =
    ap (λ (o : Option Er). error_or o one) (sym (coded_back one) ∙ (ap (λ z. coded z) ((Decides-int_eq (code_of one) (code_of other)).0 is) ∙ coded_back other))

-- the ending of a request has its bytes in this room
abbrev room_of : Request → Served → ℕ
room_of request served = (bytes_back request served.content).room

-- an ending that says what the unit does is that of the request
said : (ending : Ending) (request : Request) (served : Served) → says ending request served ≡ true → ending_of ending.device request ending.how served ≡ but_for ending 0 (room_of request served)
said ending request served is =
    let first = both (ending.request == request.id) _ is in
    let second = both (ending.number == request.number) _ first.1 in
    let third = both (ending.size == served.size) _ second.1 in
    let fourth = both (is_error ending.error served.error) (bytes_eq ending.bytes.items served.content) third.1 in
    put (sym ((Decides-eqb ending.request request.id).0 first.0)) (sym ((Decides-eqb ending.number request.number).0 second.0)) (sym ((Decides-eqb ending.size served.size).0 third.0))
    (sym (same_error ending.error served.error fourth.0)) (sym ((bytes_eq-Decides ending.bytes.items served.content).0 fourth.1))
  where
    put : request.id ≡ ending.request → request.number ≡ ending.number → served.size ≡ ending.size → served.error ≡ ending.error → served.content ≡ ending.bytes.items →
        ending_of ending.device request ending.how served ≡ but_for ending 0 (room_of request served)
    put id number size error bytes i = record {
      device = ending.device;
      request = id i;
      number = number i;
      how = ending.how;
      size = size i;
      error = error i;
      taken = 0;
      bytes = record { items = bytes i; room = room_of request served };
    }

-- what has arrived was expected
by_fit : (p q : DevParts) (ending : Ending) (link : Link) (given : Given) (fit : Bool) → is_fit ending link given ≡ fit → arrive_fit fit p ending link given ≡ Some q →
    WasExpected ending (expected_given ending.device ending.how link (Some given))
by_fit p q ending link given false fit is = absurd (cc is)
by_fit p q ending link given true fit is =
    let served : Served = served_of link.kind link.store given.request ending.how in
    let facts = both (is_allowed link.kind link.store given ending.how) (says ending given.request served) fit in (
      room_of given.request served,
      ap (λ (allowed : Bool). if allowed then Some (ending_of ending.device given.request ending.how served) else None) facts.0
          ∙ ap (λ (e : Ending). Some e) (said ending given.request served facts.1),
    )

by_given : (p q : DevParts) (ending : Ending) (link : Link) (given : Option Given) → arrive_given p ending link given ≡ Some q → WasExpected ending (expected_given ending.device ending.how link given)
by_given p q ending link None is = absurd (cc is)
by_given p q ending link (Some given) is = by_fit p q ending link given (is_fit ending link given) refl is

by_link : (p q : DevParts) (ending : Ending) (link : Option Link) → arrive_link p ending link ≡ Some q → WasExpected ending (expected_link ending.device ending.how link)
by_link p q ending None is = absurd (cc is)
by_link p q ending (Some link) is = by_given p q ending link link.given is

pub arrived_was_expected : (p q : DevParts) (ending : Ending) → arrive p ending ≡ Some q → WasExpected ending (expected p.table ending.device ending.how)
unfolding arrive expected
arrived_was_expected p q ending is = by_link p q ending (link_at p.table ending.device) is

-- ---- and what is expected arrives

says_it : (d : ℕ) (request : Request) (how : How) (served : Served) (n room : ℕ) → says (but_for (ending_of d request how served) n room) request served ≡ true
says_it d request how served n room =
    and_true _ _ ((Decides-eqb request.id request.id).1 refl)
    (and_true _ _ ((Decides-eqb request.number request.number).1 refl)
    (and_true _ _ ((Decides-eqb served.size served.size).1 refl)
    (and_true _ _ ((Decides-int_eq (code_of served.error) (code_of served.error)).1 refl) ((bytes_eq-Decides served.content served.content).1 refl))))

abbrev ending_or : Option Ending → Ending → Ending
ending_or None otherwise = otherwise
ending_or (Some ending) otherwise = ending

some_by_row : (p : DevParts) (d : ℕ) (link : Link) (id : ℕ) (served : Served) (row : Row) → row_at p.table id ≡ Some row → is_at_driver row.life ≡ true → is_some (arrive_row p d link id served (row_at p.table id)) ≡ true
some_by_row p d link id served row there away =
    ap (λ (slot : Option Row). is_some (arrive_row p d link id served slot)) there
    ∙ ap (λ (test : Bool). is_some (if test then Some (landed p d link id row served) else None)) away

some_by_given : (p : DevParts) (d : ℕ) (how : How) (link : Link) (given : Given) (ending : Ending) (n room : ℕ) → IsAway p.table d given.request.id → (allowed : Bool) → is_allowed link.kind link.store given how ≡ allowed →
    (if allowed then Some (ending_of d given.request how (served_of link.kind link.store given.request how)) else None) ≡ Some ending →
    is_some (arrive_given p (but_for ending n room) link (Some given)) ≡ true
some_by_given p d how link given ending n room away false fit is = absurd (cc is)
some_by_given p d how link given ending n room away true fit is =
    let served : Served = served_of link.kind link.store given.request how in
    let one : Ending = ending_of d given.request how served in
    let same : one ≡ ending = ap (λ (o : Option Ending). ending_or o one) is in
    let fits : is_fit (but_for one n room) link given ≡ true = and_true (is_allowed link.kind link.store given how) (says (but_for one n room) given.request served) fit (says_it d given.request how served n room) in
    ap (λ (e : Ending). is_some (arrive_given p (but_for e n room) link (Some given))) (sym same)
    ∙ (ap (λ (test : Bool). is_some (arrive_fit test p (but_for one n room) link given)) fits
    ∙ some_by_row p d link given.request.id served away.row away.there away.away)

some_by_link : (p : DevParts) (d : ℕ) (how : How) (link : Link) (ending : Ending) (n room : ℕ) → ((given : Given) → link.given ≡ Some given → IsAway p.table d given.request.id) → (slot : Option Given) → link.given ≡ slot →
    expected_given d how link slot ≡ Some ending → is_some (arrive_given p (but_for ending n room) link slot) ≡ true
some_by_link p d how link ending n room tied None has is = absurd (cc is)
some_by_link p d how link ending n room tied (Some given) has is = some_by_given p d how link given ending n room (tied given has) (is_allowed link.kind link.store given how) refl is

device_by : (d : ℕ) (how : How) (link : Link) (ending : Ending) (slot : Option Given) → expected_given d how link slot ≡ Some ending → ending.device ≡ d
device_by d how link ending None is = absurd (cc is)
device_by d how link ending (Some given) is = by_test (is_allowed link.kind link.store given how) is
  where
    by_test : (test : Bool) → (if test then Some (ending_of d given.request how (served_of link.kind link.store given.request how)) else None) ≡ Some ending → ending.device ≡ d
    by_test true same = sym (ap (λ (o : Option Ending). (ending_or o ending).device) same)
    by_test false same = absurd (cc same)

some_by_slot : (p : DevParts) (d : ℕ) (how : How) (ending : Ending) (n room : ℕ) → AreTied p.table → (slot : Option Link) → link_at p.table d ≡ slot → expected_link d how slot ≡ Some ending →
    is_some (arrive_link p (but_for ending n room) (link_at p.table ending.device)) ≡ true
some_by_slot p d how ending n room tied None linked is = absurd (cc is)
some_by_slot p d how ending n room tied (Some link) linked is =
    ap (λ (other : ℕ). is_some (arrive_link p (but_for ending n room) (link_at p.table other))) (device_by d how link ending link.given is)
    ∙ (ap (λ (slot : Option Link). is_some (arrive_link p (but_for ending n room) slot)) linked
    ∙ some_by_link p d how link ending n room (λ given has. tied.given d link given linked has) link.given refl is)

-- what is expected arrives, however many messages were taken, and whatever the room of its bytes
pub expected_arrives : (p : DevParts) (d : ℕ) (how : How) (ending : Ending) (n room : ℕ) → AreTied p.table → expected p.table d how ≡ Some ending → is_some (arrive p (but_for ending n room)) ≡ true
unfolding arrive expected
expected_arrives p d how ending n room tied is = some_by_slot p d how ending n room tied (link_at p.table d) refl is
