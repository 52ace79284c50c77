-- What is read of a device, and what is written, whatever its messages are.
use Rattle.std.proofs.Common.{◌≡◌, ℕ, zero, suc, ◌+◌, ◌≤◌, Bool, true, false, List, [], ◌∷◌, ◌++◌, Option, Some, None, refl, ap, sym, subst, ◌∙◌, arith, length, ◌<◌}
use Rattle.std.specs.Option.{is_some, option_map}
use Rattle.std.specs.Prelude.{Err, IsOk, Ok, Result, filter, if◌then◌else◌, is_ok, slice_set}
use Rattle.std.proofs.lemmas.List.{length-set}
use Rattle.tk_types.specs.declared.line.How.{How}
use Rattle.kernel_model.specs.Words.Orders.{entry}
use Rattle.kernel_lemmas.proofs.Tables.{entry_beyond}
use Rattle.device_model.specs.declared.messages.Ending.{Ending}
use Rattle.device_model.specs.declared.messages.Message.{Message}
use Rattle.device_model.specs.declared.messages.Request.{Request}
use Rattle.device_model.specs.declared.messages.Message.TheVariants as message
use Rattle.device_model.specs.Devices.Tables.{Given, Link, given_in, link_asked}
use Rattle.device_model.specs.Devices.Endings.{expected_given}
use Rattle.dev_layer.specs.Links.{allows_given, ended_given, fits_given, given_asked, link_hands}
use Rattle.dev_layer.specs.Messages.{AreFrom, AreKnown, AreLinks, abort_given, abort_number, allows_link, asked_entry, asked_slot, attached, ended_entry, handed_entry, is_for, link_asking, links_asked, links_handed, number_in, out_in, put_out, receiver, slot_hands, with_out}
use Rattle.dev_layer.proofs.Attached.{entry_attached, put_attached, put_known, put_sorted, set_attached, some_attached}

own_out : (out : List Message) (slot : Option Link) → with_out (out_in (with_out out slot)) slot ≡ with_out out slot
own_out out None = refl
own_out out (Some link) = refl

-- what stands in a slot, with the messages that the table shows there
pub slot_is : (slots : List (Option Link)) (out : List Message) (n : ℕ) → with_out (out_in (entry (attached slots 0 out) n)) (entry slots n) ≡ entry (attached slots 0 out) n
slot_is slots out n =
    ap (λ o. with_out (out_in o) (entry slots n)) (entry_attached slots 0 out n) ∙ own_out (filter (is_for (0 + n)) out) (entry slots n) ∙ sym (entry_attached slots 0 out n)

pub slot_beyond : (slots : List (Option Link)) (out : List Message) (n : ℕ) → length slots ≤ n → entry (attached slots 0 out) n ≡ None
slot_beyond slots out n beyond = entry_attached slots 0 out n ∙ ap (with_out (filter (is_for (0 + n)) out)) (entry_beyond slots n beyond)

expected_by : (d : ℕ) (how : How) (link : Link) (out : List Message) (given : Option Given) → expected_given d how (record link { out = out }) given ≡ expected_given d how link given
expected_by d how link out None = refl
expected_by d how link out (Some given) = refl

pub expected_out : (d : ℕ) (how : How) (link : Link) (out : List Message) → expected_given d how (record link { out = out }) link.given ≡ expected_given d how link link.given
expected_out d how link out = expected_by d how link out link.given

fits_by : (ending : Ending) (link : Link) (out : List Message) (given : Option Given) → fits_given ending (record link { out = out }) given ≡ fits_given ending link given
fits_by ending link out None = refl
fits_by ending link out (Some given) = refl

pub fits_out : (ending : Ending) (link : Link) (out : List Message) → fits_given ending (record link { out = out }) link.given ≡ fits_given ending link link.given
fits_out ending link out = fits_by ending link out link.given

-- ---- the end of a request

allows_by : (how : How) (link : Link) (out : List Message) (given : Option Given) → allows_given (record link { out = out }) how given ≡ allows_given link how given
allows_by how link out None = refl
allows_by how link out (Some given) = refl

allows_slot : (how : How) (out : List Message) (slot : Option Link) → allows_link how (with_out out slot) ≡ allows_link how slot
allows_slot how out None = refl
allows_slot how out (Some link) = allows_by how link out link.given

pub allows_there : (slots : List (Option Link)) (out : List Message) (n : ℕ) (how : How) → allows_link how (entry (attached slots 0 out) n) ≡ true → allows_link how (entry slots n) ≡ true
allows_there slots out n how may = sym (allows_slot how (filter (is_for (0 + n)) out) (entry slots n)) ∙ ap (allows_link how) (sym (entry_attached slots 0 out n)) ∙ may

ended_by : (how : How) (link : Link) (out : List Message) (given : Option Given) → ended_given (record link { out = out }) how given ≡ record (ended_given link how given) { out = out }
ended_by how link out None = refl
ended_by how link out (Some given) = refl

ended_slot : (how : How) (out : List Message) (slot : Option Link) → ended_entry how (with_out out slot) ≡ with_out out (ended_entry how slot)
ended_slot how out None = refl
ended_slot how out (Some link) = ap (λ (l : Link). Some l) (ended_by how link out link.given)

pub finished_is : (slots : List (Option Link)) (out : List Message) (n : ℕ) (how : How) →
    attached (slice_set slots n (ended_entry how (entry slots n))) 0 out ≡ slice_set (attached slots 0 out) n (ended_entry how (entry (attached slots 0 out) n))
finished_is slots out n how =
    set_attached slots 0 out n (ended_entry how (entry slots n))
    ∙ ap (slice_set (attached slots 0 out) n) (sym (ended_slot how (filter (is_for (0 + n)) out) (entry slots n)) ∙ ap (ended_entry how) (sym (entry_attached slots 0 out n)))

bare_slot : (out : List Message) (slot : Option Link) (link : Link) → with_out out slot ≡ Some link → slot ≡ Some (record link { out = out_in slot })
bare_slot out None link is = absurd (cc is)
bare_slot out (Some bare) link is = let same : record bare { out = out } ≡ link = cc is in ap (λ (l : Link). Some (record l { out = bare.out })) same

-- what stands in a slot, as the table has it
pub bare_of : (slots : List (Option Link)) (out : List Message) (n : ℕ) (link : Link) → entry (attached slots 0 out) n ≡ Some link → entry slots n ≡ Some (record link { out = out_in (entry slots n) })
bare_of slots out n link is = bare_slot (filter (is_for (0 + n)) out) (entry slots n) link (sym (entry_attached slots 0 out n) ∙ is)

some_ended : (how : How) (slot : Option Link) → is_some slot ≡ is_some (ended_entry how slot)
some_ended how None = refl
some_ended how (Some link) = refl

set_keeps : (slots : List (Option Link)) (n : ℕ) (slot : Option Link) (k : ℕ) → is_some (entry slots n) ≡ is_some slot → is_some (entry slots k) ≡ true → is_some (entry (slice_set slots n slot) k) ≡ true
set_keeps [] n slot k same there = absurd (cc there)
set_keeps (first ∷ slots) zero slot zero same there = sym same ∙ there
set_keeps (first ∷ slots) zero slot (suc k) same there = there
set_keeps (first ∷ slots) (suc n) slot zero same there = there
set_keeps (first ∷ slots) (suc n) slot (suc k) same there = set_keeps slots n slot k same there

pub known_kept : (slots : List (Option Link)) (n : ℕ) (slot : Option Link) (out : List Message) → is_some (entry slots n) ≡ is_some slot → AreKnown slots out → AreKnown (slice_set slots n slot) out
known_kept slots n slot [] same known = tt
known_kept slots n slot (m ∷ rest) same known = (set_keeps slots n slot (receiver m) same known.0, known_kept slots n slot rest same known.1)

unnamed_kept : (slots : List (Option Link)) (n : ℕ) (slot : Option Link) → is_some (entry slots n) ≡ is_some slot → entry slots 0 ≡ None → entry (slice_set slots n slot) 0 ≡ None
unnamed_kept [] n slot same none = refl
unnamed_kept (None ∷ slots) zero None same none = refl
unnamed_kept (None ∷ slots) zero (Some link) same none = absurd (cc same)
unnamed_kept (Some first ∷ slots) zero slot same none = absurd (cc none)
unnamed_kept (first ∷ slots) (suc n) slot same none = none

-- a slot is written, in which there is a device before and after or none
pub links_kept : (slots : List (Option Link)) (n : ℕ) (slot : Option Link) (out : List Message) → is_some (entry slots n) ≡ is_some slot → AreLinks slots out → AreLinks (slice_set slots n slot) out
links_kept slots n slot out same are = record {
  few = subst (λ (k : ℕ). k ≤ 9) (sym (length-set slots n slot)) are.few;
  unnamed = unnamed_kept slots n slot same are.unnamed;
  sorted = are.sorted;
  known = known_kept slots n slot out same are.known;
}

pub finished_fit : (slots after : List (Option Link)) (out : List Message) (n : ℕ) (how : How) → after ≡ slice_set slots n (ended_entry how (entry slots n)) → AreLinks slots out → AreLinks after out
finished_fit slots after out n how is are =
    subst (λ (all : List (Option Link)). AreLinks all out) (sym is) (links_kept slots n (ended_entry how (entry slots n)) out (some_ended how (entry slots n)) are)

-- ---- one message more

-- a device is written with one message more for it
pub put_fit : (slots after : List (Option Link)) (out more : List Message) (n : ℕ) (slot : Option Link) (m : Message) → receiver m ≡ n → is_some (entry slots n) ≡ true → is_some slot ≡ true → after ≡ slice_set slots n slot → more ≡ put_out m out →
    AreLinks slots out → AreLinks after more
put_fit slots after out more n slot m is there some written put are =
    let same : is_some (entry slots n) ≡ is_some slot = there ∙ sym some in
    let known : AreKnown slots (put_out m out) = put_known slots m out (ap (λ (k : ℕ). is_some (entry slots k)) is ∙ there) are.known in
    let whole : AreLinks (slice_set slots n slot) (put_out m out) = record {
      few = subst (λ (k : ℕ). k ≤ 9) (sym (length-set slots n slot)) are.few;
      unnamed = unnamed_kept slots n slot same are.unnamed;
      sorted = put_sorted m out 0 (omega arith) are.sorted;
      known = known_kept slots n slot (put_out m out) same known;
    } in
    subst (λ (all : List (Option Link)). AreLinks all more) (sym written) (subst (λ (out : List Message). AreLinks (slice_set slots n slot) out) (sym put) whole)

given_slot : (out : List Message) (slot : Option Link) → given_in (with_out out slot) ≡ given_in slot
given_slot out None = refl
given_slot out (Some link) = refl

number_slot : (out : List Message) (slot : Option Link) → number_in (with_out out slot) ≡ number_in slot
number_slot out None = refl
number_slot out (Some link) = refl

pub given_there : (slots : List (Option Link)) (out : List Message) (n : ℕ) → given_in (entry slots n) ≡ given_in (entry (attached slots 0 out) n)
given_there slots out n = sym (given_slot (filter (is_for (0 + n)) out) (entry slots n)) ∙ ap given_in (sym (entry_attached slots 0 out n))

pub number_there : (slots : List (Option Link)) (out : List Message) (n : ℕ) → number_in (entry slots n) ≡ number_in (entry (attached slots 0 out) n)
number_there slots out n = sym (number_slot (filter (is_for (0 + n)) out) (entry slots n)) ∙ ap number_in (sym (entry_attached slots 0 out n))

pub some_there : (slots : List (Option Link)) (out : List Message) (n : ℕ) → is_some (entry slots n) ≡ is_some (entry (attached slots 0 out) n)
some_there slots out n = sym (some_attached (filter (is_for (0 + n)) out) (entry slots n)) ∙ ap is_some (sym (entry_attached slots 0 out n))

pub some_hands : (request : Request) (slot : Option Link) → is_some (slot_hands request slot) ≡ is_some slot
some_hands request None = refl
some_hands request (Some link) = refl

handed_by : (slots : List (Option Link)) (out : List Message) (n : ℕ) (request : Request) (slot : Option Link) → AreFrom 0 out → entry slots n ≡ slot → is_some slot ≡ true →
    attached (slice_set slots n (slot_hands request slot)) 0 (put_out (message.Serve n request) out) ≡ links_handed (attached slots 0 out) n request
handed_by slots out n request None sorted there some = absurd (cc some)
handed_by slots out n request (Some link) sorted there some =
    let shown : entry (attached slots 0 out) n ≡ Some (record link { out = filter (is_for (0 + n)) out }) = entry_attached slots 0 out n ∙ ap (with_out (filter (is_for (0 + n)) out)) there in
    let here : n ≡ 0 + n = omega arith in
    put_attached slots 0 out n (link_hands link request) (message.Serve n request) sorted here
    ∙ ap (handed_entry (attached slots 0 out) n request) (sym shown)

-- a request goes to the driver of a device, with a message of it
pub handed_is : (slots after : List (Option Link)) (out more : List Message) (n : ℕ) (request : Request) → AreFrom 0 out → is_some (entry slots n) ≡ true → after ≡ slice_set slots n (slot_hands request (entry slots n)) → more ≡ put_out (message.Serve n request) out →
    attached after 0 more ≡ links_handed (attached slots 0 out) n request
handed_is slots after out more n request sorted some written put =
    ap (λ (all : List (Option Link)). attached all 0 more) written
    ∙ ap (attached (slice_set slots n (slot_hands request (entry slots n))) 0) put
    ∙ handed_by slots out n request (entry slots n) sorted refl some

asking_if : (links : List (Option Link)) (n : ℕ) (link : Link) (given : Given) (b : Bool) → given.asked ≡ b → b ≡ false → asked_slot links n link (Some given) ≡ slice_set links n (Some (link_asked n link given))
asking_if links n link given b is not_so = rw (is ∙ not_so) refl

asked_by : (slots : List (Option Link)) (out : List Message) (n number : ℕ) (link : Link) (given : Option Given) → AreFrom 0 out → entry slots n ≡ Some link → link.given ≡ given → abort_given given ≡ Some number →
    attached (slice_set slots n (Some (record link { given = option_map given_asked given }))) 0 (put_out (message.Abort n number) out) ≡ asked_slot (attached slots 0 out) n (record link { out = filter (is_for (0 + n)) out }) given
asked_by slots out n number link None sorted there has is = absurd (cc is)
asked_by slots out n number link (Some given) sorted there has is = asked_if given.asked refl
  where
    asked_if : (b : Bool) → given.asked ≡ b →
        attached (slice_set slots n (Some (record link { given = Some (given_asked given) }))) 0 (put_out (message.Abort n number) out) ≡ asked_slot (attached slots 0 out) n (record link { out = filter (is_for (0 + n)) out }) (Some given)
    asked_if true so = absurd (cc (so, is))
    asked_if false so =
        let told : abort_given (Some given) ≡ Some given.request.number = rw so refl in
        let same : number ≡ given.request.number = cc (is, told) in
        let here : n ≡ 0 + n = omega arith in
        put_attached slots 0 out n (record link { given = Some (given_asked given) }) (message.Abort n number) sorted here
        ∙ ap (λ (k : ℕ). slice_set (attached slots 0 out) n (Some (record link { given = Some (given_asked given); out = filter (is_for (0 + n)) out ++ message.Abort n k ∷ [] }))) same
        ∙ sym (asking_if (attached slots 0 out) n (record link { out = filter (is_for (0 + n)) out }) given given.asked refl so)

asked_in : (slots : List (Option Link)) (out : List Message) (n number : ℕ) (slot : Option Link) → AreFrom 0 out → entry slots n ≡ slot → abort_number slot ≡ Some number →
    attached (slice_set slots n (option_map link_asking slot)) 0 (put_out (message.Abort n number) out) ≡ links_asked (attached slots 0 out) n
asked_in slots out n number None sorted there is = absurd (cc is)
asked_in slots out n number (Some link) sorted there is =
    let shown : entry (attached slots 0 out) n ≡ Some (record link { out = filter (is_for (0 + n)) out }) = entry_attached slots 0 out n ∙ ap (with_out (filter (is_for (0 + n)) out)) there in
    asked_by slots out n number link link.given sorted there refl is ∙ ap (asked_entry (attached slots 0 out) n) (sym shown)

number_out : (out : List Message) (slot : Option Link) → abort_number (with_out out slot) ≡ abort_number slot
number_out out None = refl
number_out out (Some link) = refl

pub abort_there : (slots : List (Option Link)) (out : List Message) (n : ℕ) → abort_number (entry slots n) ≡ abort_number (entry (attached slots 0 out) n)
abort_there slots out n = sym (number_out (filter (is_for (0 + n)) out) (entry slots n)) ∙ ap abort_number (sym (entry_attached slots 0 out n))

-- a driver is asked to abort what it has
pub asked_is : (slots after : List (Option Link)) (out more : List Message) (n number : ℕ) → AreFrom 0 out → abort_number (entry slots n) ≡ Some number → after ≡ slice_set slots n (option_map link_asking (entry slots n)) → more ≡ put_out (message.Abort n number) out →
    attached after 0 more ≡ links_asked (attached slots 0 out) n
asked_is slots after out more n number sorted is written put =
    ap (λ (all : List (Option Link)). attached all 0 more) written
    ∙ ap (attached (slice_set slots n (option_map link_asking (entry slots n))) 0) put
    ∙ asked_in slots out n number (entry slots n) sorted refl is

pub some_abort : (slot : Option Link) (number : ℕ) → abort_number slot ≡ Some number → is_some slot ≡ true
some_abort None number is = absurd (cc is)
some_abort (Some link) number is = refl

pub some_asking : (slot : Option Link) → is_some slot ≡ true → is_some (option_map link_asking slot) ≡ true
some_asking None some = some
some_asking (Some link) some = refl

kept_by : (links : List (Option Link)) (n : ℕ) (link : Link) (given : Option Given) → abort_given given ≡ None → asked_slot links n link given ≡ links
kept_by links n link None none = refl
kept_by links n link (Some given) none = kept_if given.asked refl
  where
    kept_if : (b : Bool) → given.asked ≡ b → asked_slot links n link (Some given) ≡ links
    kept_if true so = rw so refl
    kept_if false so = let told : abort_given (Some given) ≡ Some given.request.number = rw so refl in absurd (cc (none, told))

unasked : (links : List (Option Link)) (n : ℕ) (slot : Option Link) → abort_number slot ≡ None → asked_entry links n slot ≡ links
unasked links n None none = refl
unasked links n (Some link) none = kept_by links n link link.given none

-- where no abort is to be asked, nothing changes
pub not_asked : (links : List (Option Link)) (n : ℕ) → abort_number (entry links n) ≡ None → links_asked links n ≡ links
not_asked links n none = unasked links n (entry links n) none

-- what succeeds is there
pub inserted : {A E : Type 0} (result : Result A E) (one other : List Message) → IsOk result → (if is_ok result then one else other) ≡ one
inserted (Ok value) one other ok = refl
inserted (Err error) one other ok = absurd (cc ok)

named_if : (slots : List (Option Link)) (n : ℕ) → length slots ≤ 9 → entry slots 0 ≡ None → is_some (entry slots n) ≡ true → (1 ≤ n) × (n ≤ 8)
named_if slots zero few none some = absurd (cc (none, some))
named_if slots (suc n) few none some = let inside : suc n < length slots = inside_of slots (suc n) some in (omega arith, omega (arith, few, inside))
  where
    inside_of : (all : List (Option Link)) (k : ℕ) → is_some (entry all k) ≡ true → k < length all
    inside_of [] k some = absurd (cc some)
    inside_of (x ∷ all) zero some = omega arith
    inside_of (x ∷ all) (suc k) some = let rest : k < length all = inside_of all k some in omega (arith, rest)

-- the IDs of devices are from 1 to 8
pub named_by : (slots : List (Option Link)) (out : List Message) (n : ℕ) → AreLinks slots out → is_some (entry slots n) ≡ true → (1 ≤ n) × (n ≤ 8)
named_by slots out n are some = named_if slots n are.few are.unnamed some
