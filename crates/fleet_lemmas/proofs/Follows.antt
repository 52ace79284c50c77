-- Each call on a fleet that follows a run, and each event of the run, keep that it does.
use Rattle.std.proofs.Common.{◌≡◌, ℕ, ◌+◌, ◌≤◌, ◌⊎◌, inl, inr, Bool, true, false, cond, List, [], ◌∷◌, ◌++◌, length, map, Option, Some, None, refl, ap, sym, subst, ◌∙◌, arith}
use Rattle.std.specs.Prelude.{◌&&◌, not, leb}
use Rattle.std.specs.List.{list_any}
use Rattle.std.specs.Bool.{◌==◌}
use Rattle.std.proofs.lemmas.Bool.{and_parts}
use Rattle.std.proofs.lemmas.Bool.Decides.{nat_tests}
use Rattle.std.proofs.lemmas.List.{append_assoc, append-nil, length-append, map-append}
use Rattle.tk_types.specs.declared.script.Device.{Device}
use Rattle.device_model.specs.declared.messages.Ending.{Ending}
use Rattle.device_model.specs.declared.messages.Message.{Message}
use Rattle.fleet_model.specs.Channels.{Channel, accepts, flushed, gone, is_serve, marked, with_ending, with_message}
use Rattle.fleet_model.specs.Fleets.{Fleet, Handed, HasChannel, IsOfFleet, Polled, Waited, after_drop, after_hand, after_wait, all_flushed, changed_at, channel_at, channel_in, counted, device_of, fleet_start, may_accept, most_counted}
use Rattle.run_model.specs.Passings.{Gives, Passing, Takes, endings_of, given_from, messages_to}
use Rattle.run_model.specs.SoFar.{messages_for}
use Rattle.run_model.specs.Told.{EachAtMost, untold}
use Rattle.fleet_lemmas.specs.Follows.{Follows, Receives, pending_of, received_in}
use Rattle.fleet_lemmas.proofs.Channels.{Read, apart, here, read_changed, read_flushed, read_start, received_changed, received_flushed, received_same, received_start, same_or_apart, there_within}
use Rattle.fleet_lemmas.proofs.Passings.{at_append, at_given, each_more, of_append, of_given, to_append, to_given}

itself : (t : ℕ) → (t == t) ≡ true
itself t = grind (arith, nat_tests)

differs : (n m : ℕ) → (n ≡ m → ⊥) → (n == m) ≡ false
differs n m other = grind (arith, nat_tests, other)

-- ---- the start

pub follows_start : (devices : List Device) → Follows [] 0 [] None (fleet_start devices)
unfolding messages_to messages_for endings_of given_from EachAtMost
follows_start devices = record {
  handed = λ d channel is. let fresh = read_start devices d channel is in sym (append-nil channel.handed ∙ fresh.handed);
  received = λ d channel is. let fresh = read_start devices d channel is in record { front = []; rest = []; all = fresh.received; same = refl; given = tt; none = λ no. refl };
  dropped = inl (omega (arith, received_start devices));
}

-- ---- messages go into their inboxes

flushed_receives : (d : ℕ) (run : List Passing) (pending : Option Ending) (n : ℕ) (old channel : Channel) → channel ≡ flushed n old → Receives d run pending old → Receives d run pending channel
flushed_receives d run pending n old channel is r = subst (Receives d run pending) (sym is) (record { front = r.front; rest = r.rest; all = r.all; same = r.same; given = r.given; none = r.none })

pub follows_flushed : (run : List Passing) (count : ℕ) (left : List Message) (pending : Option Ending) (fleet : Fleet) (counts : List ℕ) → Follows run count left pending fleet →
    Follows run count left pending (record fleet { channels = all_flushed counts fleet.channels })
follows_flushed run count left pending fleet counts f = record {
  handed = λ d channel is. let was = read_flushed counts fleet.channels d channel is in f.handed d was.old was.there ∙ ap (λ (c : Channel). c.handed ++ messages_for d left) (sym was.is);
  received = λ d channel is. let was = read_flushed counts fleet.channels d channel is in flushed_receives d run pending was.count was.old channel was.is (f.received d was.old was.there);
  dropped = elim f.dropped [ inl is ↦ inl (is ∙ sym (received_flushed counts fleet.channels)) | inr most ↦ inr most ];
}

-- ---- an ending comes out

came_out : (e : Ending) (at : ℕ) (received front rest : List Ending) → e.device ≡ at → received ≡ front ++ (rest ++ []) → received ++ e ∷ [] ≡ front ++ (rest ++ pending_of at (Some e))
came_out e at received front rest same all =
    let one : pending_of at (Some e) ≡ e ∷ [] = ap (λ (is : Bool). cond is (e ∷ []) []) (subst (λ (n : ℕ). (e.device == n) ≡ true) same (itself e.device)) in
    ap (λ (l : List Ending). l ++ e ∷ []) (all ∙ ap (λ (l : List Ending). front ++ l) (append-nil rest))
    ∙ (append_assoc front rest (e ∷ []) ∙ ap (λ (l : List Ending). front ++ (rest ++ l)) (sym one))

not_of : (e : Ending) (d : ℕ) (received front rest : List Ending) → (d ≡ e.device → ⊥) → received ≡ front ++ (rest ++ []) → received ≡ front ++ (rest ++ pending_of d (Some e))
not_of e d received front rest other all =
    let no : pending_of d (Some e) ≡ [] = ap (λ (is : Bool). cond is (e ∷ []) []) (differs e.device d (λ same. other (sym same))) in
    all ∙ ap (λ (l : List Ending). front ++ (rest ++ l)) (sym no)

out_receives : (run : List Passing) (e : Ending) (channels : List Channel) (d : ℕ) (channel : Channel) → ((c : Channel) → channel_in channels d ≡ Some c → Receives d run None c) →
    Read (with_ending e) channels e.device d channel → Receives d run (Some e) channel
out_receives run e channels d channel old (here was same there is) =
    let r = old was (subst (λ (n : ℕ). channel_in channels n ≡ Some was) (sym same) there) in
    subst (Receives d run (Some e)) (sym is) (record { front = r.front; rest = r.rest; all = came_out e d was.received r.front r.rest (sym same) r.all; same = r.same; given = r.given; none = r.none })
out_receives run e channels d channel old (apart other there) =
    let r = old channel there in
    record { front = r.front; rest = r.rest; all = not_of e d channel.received r.front r.rest other r.all; same = r.same; given = r.given; none = r.none }

out_handed : (run : List Passing) (left : List Message) (e : Ending) (channels : List Channel) (d : ℕ) (channel : Channel) → ((c : Channel) → channel_in channels d ≡ Some c → messages_to d run ≡ c.handed ++ messages_for d left) →
    Read (with_ending e) channels e.device d channel → messages_to d run ≡ channel.handed ++ messages_for d left
out_handed run left e channels d channel old (here was same there is) =
    old was (subst (λ (n : ℕ). channel_in channels n ≡ Some was) (sym same) there) ∙ ap (λ (c : Channel). c.handed ++ messages_for d left) (sym is)
out_handed run left e channels d channel old (apart other there) = old channel there

size_more : (e : Ending) (received : List Ending) → length (received ++ e ∷ []) ≡ length received + 1
size_more e received = length-append received (e ∷ [])

follows_out : (run : List Passing) (count : ℕ) (left : List Message) (fleet : Fleet) (e : Ending) → HasChannel fleet e.device → Follows run count left None fleet →
    Follows run count left (Some e) (record fleet { channels = changed_at (with_ending e) fleet.channels e.device })
follows_out run count left fleet e has f =
    let one = there_within fleet.channels e.device has.0 has.1 in
    let size : received_in (changed_at (with_ending e) fleet.channels e.device) ≡ received_in fleet.channels + 1 = received_changed (with_ending e) fleet.channels e.device one.0 1 one.1 (size_more e one.0.received) in
    record {
      handed = λ d channel is. out_handed run left e fleet.channels d channel (f.handed d) (read_changed (with_ending e) fleet.channels e.device d channel is);
      received = λ d channel is. out_receives run e fleet.channels d channel (f.received d) (read_changed (with_ending e) fleet.channels e.device d channel is);
      dropped = elim f.dropped [ inl is ↦ inl (omega (arith, is, size)) | inr most ↦ inr most ];
    }

flushed_length : (counts : List ℕ) (channels : List Channel) → length (all_flushed counts channels) ≡ length channels
unfolding all_flushed
flushed_length [] channels = refl
flushed_length (n ∷ counts) [] = refl
flushed_length (n ∷ counts) (channel ∷ channels) = omega (arith, flushed_length counts channels)

waited : (run : List Passing) (count : ℕ) (fleet : Fleet) (counts : List ℕ) (ending : Option Ending) → IsOfFleet fleet ending → Follows run count [] None fleet → Follows run count [] ending (after_wait fleet counts ending)
waited run count fleet counts None is f = follows_flushed run count [] None fleet counts f
waited run count fleet counts (Some e) is f =
    follows_out run count [] (record fleet { channels = all_flushed counts fleet.channels }) e (is.0, omega (arith, is.1, flushed_length counts fleet.channels)) (follows_flushed run count [] None fleet counts f)

pub follows_waited : (run : List Passing) (count : ℕ) (old new : Fleet) (ending : Option Ending) → Waited old new ending → IsOfFleet old ending → Follows run count [] None old → Follows run count [] ending new
follows_waited run count old new ending w is f = subst (Follows run count [] ending) (sym w.is) (waited run count old w.counts ending is f)

-- how often was asked plays no part
polled : (run : List Passing) (count n : ℕ) (left : List Message) (pending : Option Ending) (fleet : Fleet) → Follows run count left pending fleet → Follows run count left pending (record fleet { polls = n })
polled run count n left pending fleet f = record { handed = f.handed; received = f.received; dropped = f.dropped }

pub follows_polled : (run : List Passing) (count : ℕ) (old new : Fleet) (ending : Option Ending) → Polled old new ending → IsOfFleet old ending → Follows run count [] None old → Follows run count [] ending new
follows_polled run count old new ending p is f =
    subst (Follows run count [] ending) (sym p.is) (polled run count (counted (old.polls + 1)) [] ending (after_wait old p.counts ending) (waited run count old p.counts ending is f))

-- ---- messages are given, and handed

pub follows_given : (run : List Passing) (count : ℕ) (ms : List Message) (pending : Option Ending) (fleet : Fleet) → Follows run count [] pending fleet → Follows (run ++ map Gives ms) count ms pending fleet
unfolding messages_for
follows_given run count ms pending fleet f = record {
  handed = λ d channel is.
      to_append d run (map Gives ms) ∙ (ap (λ (l : List Message). l ++ messages_to d (map Gives ms)) (f.handed d channel is ∙ append-nil channel.handed) ∙ ap (λ (l : List Message). channel.handed ++ l) (to_given d ms));
  received = λ d channel is. let r = f.received d channel is in record {
    front = r.front;
    rest = r.rest;
    all = r.all;
    same = r.same ∙ ap (λ (l : List Ending). map untold l) (sym (of_append d run (map Gives ms) ∙ (ap (λ (l : List Ending). endings_of d run ++ l) (of_given d ms) ∙ append-nil (endings_of d run))));
    given = subst (EachAtMost (map (λ (e : Ending). e.taken) r.front)) (sym (at_append 0 d run (map Gives ms) ∙ (ap (λ (l : List ℕ). given_from 0 d run ++ l) (at_given (0 + length (messages_to d run)) d ms) ∙ append-nil (given_from 0 d run)))) r.given;
    none = r.none;
  };
  dropped = f.dropped;
}

for_first : (d : ℕ) (m : Message) (ms : List Message) → device_of m ≡ d → messages_for d (m ∷ ms) ≡ m ∷ messages_for d ms
unfolding messages_for
for_first d m ms same = ap (λ (is : Bool). cond is (m ∷ messages_for d ms) (messages_for d ms)) (subst (λ (n : ℕ). (device_of m == n) ≡ true) same (itself (device_of m)))

for_other : (d : ℕ) (m : Message) (ms : List Message) → (d ≡ device_of m → ⊥) → messages_for d (m ∷ ms) ≡ messages_for d ms
unfolding messages_for
for_other d m ms other = ap (λ (is : Bool). cond is (m ∷ messages_for d ms) (messages_for d ms)) (differs (device_of m) d (λ same. other (sym same)))

abbrev hands : Message → ℕ → Channel → Channel
hands m n channel = flushed n (with_message m channel)

hand_handed : (run : List Passing) (m : Message) (ms : List Message) (n : ℕ) (channels : List Channel) (d : ℕ) (channel : Channel) → ((c : Channel) → channel_in channels d ≡ Some c → messages_to d run ≡ c.handed ++ messages_for d (m ∷ ms)) →
    Read (hands m n) channels (device_of m) d channel → messages_to d run ≡ channel.handed ++ messages_for d ms
hand_handed run m ms n channels d channel old (here was same there is) =
    old was (subst (λ (k : ℕ). channel_in channels k ≡ Some was) (sym same) there)
    ∙ (ap (λ (l : List Message). was.handed ++ l) (for_first d m ms (sym same))
    ∙ (sym (append_assoc was.handed (m ∷ []) (messages_for d ms)) ∙ ap (λ (c : Channel). c.handed ++ messages_for d ms) (sym is)))
hand_handed run m ms n channels d channel old (apart other there) = old channel there ∙ ap (λ (l : List Message). channel.handed ++ l) (for_other d m ms other)

hand_receives : (run : List Passing) (pending : Option Ending) (m : Message) (n : ℕ) (channels : List Channel) (d : ℕ) (channel : Channel) → ((c : Channel) → channel_in channels d ≡ Some c → Receives d run pending c) →
    Read (hands m n) channels (device_of m) d channel → Receives d run pending channel
hand_receives run pending m n channels d channel old (here was same there is) =
    let r = old was (subst (λ (k : ℕ). channel_in channels k ≡ Some was) (sym same) there) in
    subst (Receives d run pending) (sym is) (record { front = r.front; rest = r.rest; all = r.all; same = r.same; given = r.given; none = r.none })
hand_receives run pending m n channels d channel old (apart other there) = old channel there

handed_by : (run : List Passing) (count : ℕ) (m : Message) (ms : List Message) (pending : Option Ending) (fleet : Fleet) (n : ℕ) → Follows run count (m ∷ ms) pending fleet → Follows run count ms pending (after_hand fleet m n)
handed_by run count m ms pending fleet n f = record {
  handed = λ d channel is. hand_handed run m ms n fleet.channels d channel (f.handed d) (read_changed (hands m n) fleet.channels (device_of m) d channel is);
  received = λ d channel is. hand_receives run pending m n fleet.channels d channel (f.received d) (read_changed (hands m n) fleet.channels (device_of m) d channel is);
  dropped = elim f.dropped [ inl is ↦ inl (is ∙ sym (received_same (hands m n) fleet.channels (device_of m) (λ c. refl))) | inr most ↦ inr most ];
}

pub follows_handed : (run : List Passing) (count : ℕ) (m : Message) (ms : List Message) (pending : Option Ending) (old new : Fleet) → Handed old new m → Follows run count (m ∷ ms) pending old → Follows run count ms pending new
follows_handed run count m ms pending old new h f = subst (Follows run count ms pending) (sym h.is) (handed_by run count m ms pending old h.count f)

-- ---- an ending is dropped

drop_receives : (run : List Passing) (e : Ending) (channels : List Channel) (d : ℕ) (channel : Channel) → ((c : Channel) → channel_in channels d ≡ Some c → Receives d run (Some e) c) →
    Read marked channels e.device d channel → Receives d run None channel
drop_receives run e channels d channel old (here was same there is) =
    let r = old was (subst (λ (n : ℕ). channel_in channels n ≡ Some was) (sym same) there) in
    let now : Receives d run None (marked was) = record { front = r.front; rest = r.rest ++ pending_of d (Some e); all = r.all ∙ ap (λ (l : List Ending). r.front ++ l) (sym (append-nil (r.rest ++ pending_of d (Some e)))); same = r.same; given = r.given; none = λ no. absurd (cc no) } in
    subst (Receives d run None) (sym is) now
drop_receives run e channels d channel old (apart other there) =
    let r = old channel there in
    let no : pending_of d (Some e) ≡ [] = ap (λ (is : Bool). cond is (e ∷ []) []) (differs e.device d (λ same. other (sym same))) in
    record { front = r.front; rest = r.rest; all = r.all ∙ ap (λ (l : List Ending). r.front ++ (r.rest ++ l)) no; same = r.same; given = r.given; none = r.none }

drop_handed : (run : List Passing) (e : Ending) (channels : List Channel) (d : ℕ) (channel : Channel) → ((c : Channel) → channel_in channels d ≡ Some c → messages_to d run ≡ c.handed ++ messages_for d []) →
    Read marked channels e.device d channel → messages_to d run ≡ channel.handed ++ messages_for d []
drop_handed run e channels d channel old (here was same there is) =
    old was (subst (λ (n : ℕ). channel_in channels n ≡ Some was) (sym same) there) ∙ ap (λ (c : Channel). c.handed ++ messages_for d []) (sym is)
drop_handed run e channels d channel old (apart other there) = old channel there

counts_up : (n most rest count all : ℕ) → (rest + (count + 1) ≡ all) ⊎ (rest ≡ most_counted) → (counted (rest + 1) + (count + 0) ≡ all) ⊎ (counted (rest + 1) ≡ most_counted)
counts_up n most rest count all (inl is) = within (leb (rest + 1) most_counted) refl
  where
    within : (b : Bool) → leb (rest + 1) most_counted ≡ b → (cond b (rest + 1) most_counted + (count + 0) ≡ all) ⊎ (cond b (rest + 1) most_counted ≡ most_counted)
    within true low = inl (omega (arith, is))
    within false high = inr refl
counts_up n most rest count all (inr is) = within (leb (rest + 1) most_counted) refl
  where
    within : (b : Bool) → leb (rest + 1) most_counted ≡ b → (cond b (rest + 1) most_counted + (count + 0) ≡ all) ⊎ (cond b (rest + 1) most_counted ≡ most_counted)
    within true low = let high : rest + 1 ≤ most_counted = grind (arith, nat_tests, low) in absurd (omega (arith, high, is))
    within false high = inr refl

pub follows_dropped : (run : List Passing) (count : ℕ) (e : Ending) (fleet : Fleet) → Follows run count [] (Some e) fleet → Follows run count [] None (after_drop fleet e.device)
follows_dropped run count e fleet f =
    let same : received_in (changed_at marked fleet.channels e.device) ≡ received_in fleet.channels = received_same marked fleet.channels e.device (λ c. refl) in
    record {
      handed = λ d channel is. drop_handed run e fleet.channels d channel (f.handed d) (read_changed marked fleet.channels e.device d channel is);
      received = λ d channel is. drop_receives run e fleet.channels d channel (f.received d) (read_changed marked fleet.channels e.device d channel is);
      dropped = subst (λ (all : ℕ). (counted (fleet.dropped + 1) + (count + 0) ≡ all) ⊎ (counted (fleet.dropped + 1) ≡ most_counted)) (sym same) (counts_up 0 0 fleet.dropped count (received_in fleet.channels) f.dropped);
    }

-- ---- an ending is taken in

pub record Accepted (fleet : Fleet) (e : Ending) : Type 0 where
  pub channel : Channel
  pub is : channel_at fleet e.device ≡ Some channel
  pub known : e.taken ≤ gone channel
  pub clean : channel.dropped ≡ false
  pub no_serve : list_any is_serve channel.waiting ≡ false

unmarked : (b : Bool) → not b ≡ true → b ≡ false
unmarked true is = absurd (cc is)
unmarked false is = refl

accepted_by : (fleet : Fleet) (e : Ending) (found : Option Channel) → channel_at fleet e.device ≡ found → (elim found as (λ _. Bool) [ Some channel ↦ accepts channel e | None ↦ false ]) ≡ true → Accepted fleet e
accepted_by fleet e None there is = absurd (cc is)
accepted_by fleet e (Some channel) there is =
    let two = and_parts (leb e.taken (gone channel)) (not (list_any is_serve channel.waiting) && not channel.dropped) is in
    let more = and_parts (not (list_any is_serve channel.waiting)) (not channel.dropped) two.1 in
    let low : leb e.taken (gone channel) ≡ true = two.0 in
    let known : e.taken ≤ gone channel = grind (arith, nat_tests, low) in
    record { channel = channel; is = there; known = known; clean = unmarked channel.dropped more.1; no_serve = unmarked (list_any is_serve channel.waiting) more.0 }

pub accepted : (fleet : Fleet) (e : Ending) → may_accept fleet e ≡ true → Accepted fleet e
unfolding may_accept
accepted fleet e is = accepted_by fleet e (channel_at fleet e.device) refl is

-- what passes where an ending is taken in that the run names so
abbrev took : List Passing → Ending → List Message → List Passing
took run named ms = run ++ (Takes named ∷ map Gives ms)

to_took : (d : ℕ) (run : List Passing) (named : Ending) (ms : List Message) → messages_to d (took run named ms) ≡ messages_to d run ++ messages_for d ms
unfolding messages_to
to_took d run named ms = to_append d run (Takes named ∷ map Gives ms) ∙ ap (λ (l : List Message). messages_to d run ++ l) (to_given d ms)

of_took_by : (is : Bool) (d : ℕ) (run : List Passing) (named : Ending) (ms : List Message) → (named.device == d) ≡ is → endings_of d (took run named ms) ≡ endings_of d run ++ cond is (named ∷ []) []
unfolding endings_of
of_took_by is d run named ms same =
    of_append d run (Takes named ∷ map Gives ms)
    ∙ ap (λ (l : List Ending). endings_of d run ++ l) (ap (λ (b : Bool). cond b (named ∷ endings_of d (map Gives ms)) (endings_of d (map Gives ms))) same ∙ ap (λ (l : List Ending). cond is (named ∷ l) l) (of_given d ms))

at_took_by : (is : Bool) (d : ℕ) (run : List Passing) (named : Ending) (ms : List Message) → (named.device == d) ≡ is → given_from 0 d (took run named ms) ≡ given_from 0 d run ++ cond is ((0 + length (messages_to d run)) ∷ []) []
unfolding given_from
at_took_by is d run named ms same =
    at_append 0 d run (Takes named ∷ map Gives ms)
    ∙ ap (λ (l : List ℕ). given_from 0 d run ++ l)
    (ap (λ (b : Bool). cond b ((0 + length (messages_to d run)) ∷ given_from (0 + length (messages_to d run)) d (map Gives ms)) (given_from (0 + length (messages_to d run)) d (map Gives ms))) same
    ∙ ap (λ (l : List ℕ). cond is ((0 + length (messages_to d run)) ∷ l) l) (at_given (0 + length (messages_to d run)) d ms))

device_same : (e named : Ending) → untold e ≡ untold named → e.device ≡ named.device
device_same e named same = ap (λ (x : Ending). x.device) same

pending_here : (e : Ending) → pending_of e.device (Some e) ≡ e ∷ []
pending_here e = ap (λ (is : Bool). cond is (e ∷ []) []) (itself e.device)

pending_apart : (e : Ending) (d : ℕ) → (d ≡ e.device → ⊥) → pending_of d (Some e) ≡ []
pending_apart e d other = ap (λ (is : Bool). cond is (e ∷ []) []) (differs e.device d (λ same. other (sym same)))

-- on its device
took_here : (run : List Passing) (e named : Ending) (ms : List Message) (channel : Channel) → untold e ≡ untold named → e.taken ≤ length (messages_to e.device run) → channel.dropped ≡ false →
    Receives e.device run (Some e) channel → Receives e.device (took run named ms) None channel
took_here run e named ms channel same known clean r =
    let mine : (named.device == e.device) ≡ true = subst (λ (n : ℕ). (n == e.device) ≡ true) (device_same e named same) (itself e.device) in
    record {
      front = r.front ++ e ∷ [];
      rest = [];
      all = r.all ∙ (ap (λ (l : List Ending). r.front ++ (l ++ pending_of e.device (Some e))) (r.none clean)
          ∙ (ap (λ (l : List Ending). r.front ++ l) (pending_here e) ∙ sym (append-nil (r.front ++ e ∷ []))));
      same = map-append untold r.front (e ∷ [])
          ∙ (ap (λ (l : List Ending). l ++ untold e ∷ []) r.same
          ∙ (ap (λ (x : Ending). map untold (endings_of e.device run) ++ x ∷ []) same
          ∙ (sym (map-append untold (endings_of e.device run) (named ∷ [])) ∙ ap (λ (l : List Ending). map untold l) (sym (of_took_by true e.device run named ms mine)))));
      given = subst (EachAtMost (map (λ (x : Ending). x.taken) (r.front ++ e ∷ []))) (sym (at_took_by true e.device run named ms mine))
          (subst (λ (l : List ℕ). EachAtMost l (given_from 0 e.device run ++ (0 + length (messages_to e.device run)) ∷ [])) (sym (map-append (λ (x : Ending). x.taken) r.front (e ∷ [])))
          (each_more (map (λ (x : Ending). x.taken) r.front) (given_from 0 e.device run) e.taken (0 + length (messages_to e.device run)) r.given (omega (arith, known))));
      none = λ no. refl;
    }

-- and on any other
took_apart : (run : List Passing) (e named : Ending) (ms : List Message) (d : ℕ) (channel : Channel) → untold e ≡ untold named → (d ≡ e.device → ⊥) → Receives d run (Some e) channel → Receives d (took run named ms) None channel
took_apart run e named ms d channel same other r =
    let others : (named.device == d) ≡ false = differs named.device d (λ is. other (sym is ∙ sym (device_same e named same))) in
    record {
      front = r.front;
      rest = r.rest;
      all = r.all ∙ ap (λ (l : List Ending). r.front ++ (r.rest ++ l)) (pending_apart e d other);
      same = r.same ∙ ap (λ (l : List Ending). map untold l) (sym (of_took_by false d run named ms others ∙ append-nil (endings_of d run)));
      given = subst (EachAtMost (map (λ (x : Ending). x.taken) r.front)) (sym (at_took_by false d run named ms others ∙ append-nil (given_from 0 d run))) r.given;
      none = r.none;
    }

took_by : (run : List Passing) (e named : Ending) (ms : List Message) (d : ℕ) (channel : Channel) → untold e ≡ untold named → e.taken ≤ length (messages_to e.device run) → (d ≡ e.device → channel.dropped ≡ false) →
    Receives d run (Some e) channel → (d ≡ e.device) ⊎ (d ≡ e.device → ⊥) → Receives d (took run named ms) None channel
took_by run e named ms d channel same known clean r (inl is) =
    subst (λ (n : ℕ). Receives n (took run named ms) None channel) (sym is) (took_here run e named ms channel same known (clean is) (subst (λ (n : ℕ). Receives n run (Some e) channel) is r))
took_by run e named ms d channel same known clean r (inr other) = took_apart run e named ms d channel same other r

one_channel : (fleet : Fleet) (d at : ℕ) (one other : Channel) → d ≡ at → channel_at fleet d ≡ Some one → channel_at fleet at ≡ Some other → other ≡ one
one_channel fleet d at one other same is too = let there : channel_at fleet at ≡ Some one = subst (λ (n : ℕ). channel_at fleet n ≡ Some one) same is in cc (there, too)

most_gone : (e : Ending) (run : List Passing) (channel : Channel) → e.taken ≤ gone channel → messages_to e.device run ≡ channel.handed ++ [] → e.taken ≤ length (messages_to e.device run)
most_gone e run channel known is =
    let size : length (messages_to e.device run) ≡ length channel.handed = ap (λ (l : List Message). length l) (is ∙ append-nil channel.handed) in omega (arith, known, size)

-- an ending that may be accepted is taken in, and the messages behind it are still to be handed
pub follows_taken : (run : List Passing) (count : ℕ) (e named : Ending) (ms : List Message) (fleet : Fleet) → may_accept fleet e ≡ true → untold e ≡ untold named →
    Follows run count [] (Some e) fleet → Follows (run ++ (Takes named ∷ map Gives ms)) (count + 1) ms None fleet
unfolding messages_for
follows_taken run count e named ms fleet may same f =
    let a = accepted fleet e may in
    let known : e.taken ≤ length (messages_to e.device run) = most_gone e run a.channel a.known (f.handed e.device a.channel a.is) in
    record {
      handed = λ d channel is. to_took d run named ms ∙ ap (λ (l : List Message). l ++ messages_for d ms) (f.handed d channel is ∙ append-nil channel.handed);
      received = λ d channel is. took_by run e named ms d channel same known (λ at. subst (λ (c : Channel). c.dropped ≡ false) (one_channel fleet d e.device channel a.channel at is a.is) a.clean)
          (f.received d channel is) (same_or_apart d e.device);
      dropped = elim f.dropped [ inl is ↦ inl (omega (arith, is)) | inr most ↦ inr most ];
    }
