-- The record of a fleet that followed a run and was closed tells of that run.
use Rattle.std.proofs.Common.{◌≡◌, ℕ, suc, ◌+◌, ◌≤◌, inl, inr, List, [], ◌∷◌, ◌++◌, length, map, Some, None, refl, ap, sym, subst, ◌∙◌, arith}
use Rattle.std.specs.Prelude.{slice_get}
use Rattle.std.proofs.lemmas.List.{append-nil}
use Rattle.tk_types.specs.declared.line.Entry.{Entry}
use Rattle.tk_types.specs.declared.run.Mode.{Mode}
use Rattle.tk_types.specs.declared.script.Device.{Device}
use Rattle.tk_types.specs.declared.script.Script.{Script}
use Rattle.device_model.specs.declared.messages.Ending.{Ending}
use Rattle.device_model.specs.declared.messages.Message.{Message}
use Rattle.device_model.specs.declared.messages.Message.TheVariants as message
use Rattle.machine_model.specs.Runs.Trace.{trace}
use Rattle.fleet_model.specs.Channels.{Channel}
use Rattle.fleet_model.specs.Fleets.{Fleet, channel_at, channel_in}
use Rattle.fleet_model.specs.Records.{Closes, Joined, Record, all_stopped}
use Rattle.run_model.specs.Passings.{Passing, messages_to, passings}
use Rattle.run_model.specs.SoFar.{messages_for}
use Rattle.run_model.specs.Told.{TellOf, TellsOf, Tells, all_received}
use Rattle.fleet_lemmas.specs.Follows.{Follows, Receives, kinds_of, received_in}

-- what an open channel tells of a run
pub record Open (d : ℕ) (run : List Passing) (channel : Channel) : Type 0 where
  pub handed : messages_to d run ≡ channel.handed
  pub received : Receives d run None channel

opened : (run : List Passing) (count : ℕ) (fleet : Fleet) → Follows run count [] None fleet → (d : ℕ) (channel : Channel) → channel_at fleet d ≡ Some channel → Open d run channel
unfolding messages_for
opened run count fleet f d channel is = record { handed = f.handed d channel is ∙ append-nil channel.handed; received = f.received d channel is }

firsts : {A : Type 0} (x y : A) (xs ys : List A) → x ∷ xs ≡ y ∷ ys → x ≡ y
firsts x y xs ys is = cc is

laters : {A : Type 0} (x y : A) (xs ys : List A) → x ∷ xs ≡ y ∷ ys → xs ≡ ys
laters x y xs ys is = cc is

tells_of : (d : ℕ) (run : List Passing) (channel : Channel) (joined : Joined) → Open d run channel → joined.handed ≡ channel.handed ++ message.Stop d ∷ [] → joined.received ≡ channel.received → TellsOf d run joined
tells_of d run channel joined o handed received = record {
  handed = handed ∙ ap (λ (l : List Message). l ++ message.Stop d ∷ []) (sym o.handed);
  taken_in = record {
    front = o.received.front;
    rest = o.received.rest;
    all = received ∙ (o.received.all ∙ ap (λ (l : List Ending). o.received.front ++ l) (append-nil o.received.rest));
    same = o.received.same;
    given = o.received.given;
  };
}

tell_of : (d : ℕ) (run : List Passing) (channels : List Channel) (closed : List Joined) → ((i : ℕ) (channel : Channel) → slice_get channels i ≡ Some channel → Open (d + i) run channel) →
    map (λ (c : Joined). c.handed) closed ≡ all_stopped d channels → map (λ (c : Joined). c.received) closed ≡ map (λ (c : Channel). c.received) channels → TellOf d run closed
unfolding all_stopped
tell_of d run [] [] each handed received = tt
tell_of d run [] (j ∷ closed) each handed received = absurd (cc received)
tell_of d run (c ∷ channels) [] each handed received = absurd (cc received)
tell_of d run (c ∷ channels) (j ∷ closed) each handed received =
    let first : Open d run c = subst (λ (n : ℕ). Open n run c) (omega arith) (each 0 c refl) in (
      tells_of d run c j first (firsts _ _ _ _ handed) (firsts _ _ _ _ received),
      tell_of (d + 1) run channels closed (λ i channel is. subst (λ (n : ℕ). Open n run channel) (omega arith) (each (suc i) channel is))
          (laters _ _ _ _ handed ∙ ap (λ (n : ℕ). all_stopped n channels) (omega arith)) (laters _ _ _ _ received),
    )

all_in : (channels : List Channel) (closed : List Joined) → map (λ (c : Joined). c.received) closed ≡ map (λ (c : Channel). c.received) channels → all_received closed ≡ received_in channels
unfolding all_received received_in
all_in [] [] same = refl
all_in [] (j ∷ closed) same = absurd (cc same)
all_in (c ∷ channels) [] same = absurd (cc same)
all_in (c ∷ channels) (j ∷ closed) same =
    let first : length j.received ≡ length c.received = ap (λ (l : List Ending). length l) (firsts j.received c.received _ _ same) in
    let later : all_received closed ≡ received_in channels = all_in channels closed (laters j.received c.received _ _ same) in omega (arith, first, later)

at_place : (channels : List Channel) (i : ℕ) (channel : Channel) → slice_get channels i ≡ Some channel → channel_in channels (1 + i) ≡ Some channel
unfolding channel_in
at_place channels i channel is = let next : suc i ≡ 1 + i = omega arith in subst (λ (n : ℕ). channel_in channels n ≡ Some channel) next is

-- so the record tells of the run of a script, whose passings these are
pub closes_tells : (script : Script) (mode : Mode) (budget : ℕ) (entries : List Entry) (fleet : Fleet) (closed : Record) → Closes fleet closed →
    Follows (passings script mode budget entries) (length entries) [] None fleet → kinds_of fleet.channels ≡ map (λ (device : Device). device.kind) script.devices →
    (trace script mode budget entries).steps ≤ fleet.polls → Tells script mode budget entries closed
closes_tells script mode budget entries fleet closed c f kinds polls = record {
  kinds = c.kinds ∙ kinds;
  channels = tell_of 1 (passings script mode budget entries) fleet.channels closed.channels (λ i channel is. opened (passings script mode budget entries) (length entries) fleet f (1 + i) channel (at_place fleet.channels i channel is)) c.handed c.received;
  dropped = elim f.dropped [
    | inl is ↦ let same : all_received closed.channels ≡ received_in fleet.channels = all_in fleet.channels closed.channels c.received in inl (omega (arith, is, same, c.dropped))
    | inr most ↦ inr (c.dropped ∙ most)
  ];
  polls = omega (arith, polls, c.polls);
}
