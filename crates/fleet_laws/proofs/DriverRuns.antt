-- What a driver does by its events are steps of its device: up to an ending that it sends, and all that is left once the run is over.
use Rattle.std.proofs.Common.{◌≡◌, ℕ, ◌+◌, ◌≤◌, ◌<◌, Bool, true, false, List, [], ◌∷◌, ◌++◌, length, Option, Some, None, refl, ap, sym, subst, ◌∙◌, arith}
use Rattle.std.specs.Prelude.{if◌then◌else◌}
use Rattle.std.proofs.lemmas.List.{append-nil, append_assoc, length-append}
use Rattle.device_model.specs.declared.messages.Ending.{Ending}
use Rattle.device_model.specs.declared.messages.Message.{Message}
use Rattle.driver_model.specs.Cores.{Core, after_block, after_ending, after_message, can_take, ending_out}
use Rattle.driver_model.specs.Drives.{Block, Driving, End, Event, Take, driver_step, listed, ran}
use Rattle.fleet_model.specs.Records.{IsFront}
use Rattle.world_laws.proofs.Places.{Side, Stands}
use Rattle.world_laws.proofs.Takes.{takes}
use Rattle.world_laws.proofs.Turns.{ends, turns}
use Rattle.fleet_laws.proofs.Gathers.{behind_same, never_longer}
use Rattle.fleet_laws.proofs.Growing.{block_taken, ending_taken, later_tells, message_taken, none_stays, ran_grows}
use Rattle.fleet_laws.proofs.Room.{has_room}
use Rattle.fleet_laws.proofs.OneRoad.{Goes, at_rest, goes_block, goes_end, goes_nowhere, goes_take, goes_then}

-- a driver that has taken and sent so much
abbrev pub driving : Core → List Message → List Ending → Driving
driving core taken sent = record { core = core; taken = taken; sent = sent }

-- ---- the message that it takes next

-- the messages that were taken in the end are a front of those that were handed; so one that is taken now is the next of these
record IsNext (m : Message) (following : List Message) : Type 0 where
  pub behind : List Message
  pub is : following ≡ m ∷ behind

next_taken : (taken following handed : List Message) (m : Message) (core : Core) (sent : List Ending) (events : List Event) (last : Driving) → ran (driving core (taken ++ m ∷ []) sent) events ≡ last →
    IsFront last.taken handed → handed ≡ taken ++ following → IsNext m following
next_taken taken following handed m core sent events last leads front is =
    let grows = ran_grows events (driving core (taken ++ m ∷ []) sent) in
    let whole : taken ++ following ≡ taken ++ (m ∷ (grows.messages ++ front.rest)) =
    sym is ∙ front.is ∙ ap (λ (d : Driving). d.taken ++ front.rest) (sym leads) ∙ ap (λ (xs : List Message). xs ++ front.rest) grows.taken
    ∙ append_assoc (taken ++ m ∷ []) grows.messages front.rest ∙ append_assoc taken (m ∷ []) (grows.messages ++ front.rest) in
    record { behind = grows.messages ++ front.rest; is = behind_same taken following (m ∷ (grows.messages ++ front.rest)) whole }

-- ---- up to an ending that it sends

-- a driver goes on from where it has taken and sent so much, with messages that wait, up to where it has sent the ending, too
pub record Sends (d : ℕ) (waiting : List Message) (core : Core) (taken : List Message) (sent : List Ending) (e : Ending) (last : Driving) : Type 0 where
  pub took : List Message
  pub left : List Message
  pub now : Core
  pub events : List Event
  pub goes : Goes d (at_rest waiting core []) (at_rest left now (e ∷ [])) took (e ∷ [])
  pub parts : waiting ≡ took ++ left
  pub run : ran (driving now (taken ++ took) (sent ++ e ∷ [])) events ≡ last
  pub counted : now.taken ≡ length (taken ++ took)

-- what is known of it: by these events it comes to where it ends; the ending is the next that it sends; it takes no more than was handed,
-- and by that ending no more than so far
pub record Will (waiting : List Message) (core : Core) (taken : List Message) (sent : List Ending) (e : Ending) (last : Driving) (events : List Event) : Type 0 where
  pub leads : ran (driving core taken sent) events ≡ last
  pub more : List Ending
  pub sends : last.sent ≡ sent ++ (e ∷ more)
  pub handed : List Message
  pub later : List Message
  pub front : IsFront last.taken handed
  pub all : handed ≡ taken ++ (waiting ++ later)
  pub counted : core.taken ≡ length taken
  pub told : e.taken ≤ length taken + length waiting

-- a turn comes before
turn_before : (d : ℕ) (waiting : List Message) (core : Core) (taken : List Message) (sent : List Ending) (e : Ending) (last : Driving) →
    Sends d waiting (after_block core) taken sent e last → Sends d waiting core taken sent e last
turn_before d waiting core taken sent e last rest = record {
  took = rest.took;
  left = rest.left;
  now = rest.now;
  events = rest.events;
  goes = goes_then d _ _ _ [] rest.took [] (e ∷ []) (goes_block d waiting core []) rest.goes;
  parts = rest.parts;
  run = rest.run;
  counted = rest.counted;
}

-- a message is taken before
take_before : (d : ℕ) (m : Message) (later : List Message) (core : Core) (taken : List Message) (sent : List Ending) (e : Ending) (last : Driving) → can_take core m ≡ true →
    Sends d later (after_message core m) (taken ++ m ∷ []) sent e last → Sends d (m ∷ later) core taken sent e last
take_before d m later core taken sent e last may rest = record {
  took = m ∷ rest.took;
  left = rest.left;
  now = rest.now;
  events = rest.events;
  goes = goes_then d _ _ _ (m ∷ []) rest.took [] (e ∷ []) (goes_take d m later core [] may) rest.goes;
  parts = ap (λ (xs : List Message). m ∷ xs) rest.parts;
  run = ap (λ (xs : List Message). ran (driving rest.now xs (sent ++ e ∷ [])) rest.events) (sym (append_assoc taken (m ∷ []) rest.took)) ∙ rest.run;
  counted = rest.counted ∙ ap (λ (xs : List Message). length xs) (append_assoc taken (m ∷ []) rest.took);
}

-- of one that is taken now and was given: it waits
record Waits (m : Message) (waiting later : List Message) : Type 0 where
  pub left : List Message
  pub is : waiting ≡ m ∷ left
  pub all : (taken : List Message) → taken ++ (waiting ++ later) ≡ (taken ++ m ∷ []) ++ (left ++ later)

it_waits : (waiting later : List Message) (m : Message) → 0 < length waiting → IsNext m (waiting ++ later) → Waits m waiting later
it_waits [] later m some next = absurd (omega (arith, some))
it_waits (x ∷ left) later m some next =
    let same : x ≡ m = cc next.is in
    record {
      left = left;
      is = ap (λ (y : Message). y ∷ left) same;
      all = λ taken. ap (λ (y : Message). taken ++ (y ∷ (left ++ later))) same ∙ sym (append_assoc taken (m ∷ []) (left ++ later));
    }

-- from where it takes a message on
will_take : (m : Message) (waiting : List Message) (core : Core) (taken : List Message) (sent : List Ending) (e : Ending) (last : Driving) (events : List Event) (will : Will waiting core taken sent e last events) →
    (waits : Waits m waiting will.later) (others : List Event) → ran (driving (after_message core m) (taken ++ m ∷ []) sent) others ≡ last → Will waits.left (after_message core m) (taken ++ m ∷ []) sent e last others
will_take m waiting core taken sent e last events will waits others leads = record {
  leads = leads;
  more = will.more;
  sends = will.sends;
  handed = will.handed;
  later = will.later;
  front = will.front;
  all = will.all ∙ waits.all taken;
  counted = message_taken core m ∙ counts;
  told = let told = will.told in let many = length-append taken (m ∷ []) in let parts = ap (λ (xs : List Message). length xs) waits.is in omega (arith, told, many, parts);
}
  where
    counts : core.taken + 1 ≡ length (taken ++ m ∷ [])
    counts = let count = will.counted in let many = length-append taken (m ∷ []) in omega (arith, count, many)

-- the events that are left do so
abbrev Later : ℕ → Ending → Driving → List Event → Type 0
Later d e last events = (waiting : List Message) (core : Core) (taken : List Message) (sent : List Ending) → Will waiting core taken sent e last events → Sends d waiting core taken sent e last

-- what is known where an event changed nothing
will_still : (waiting : List Message) (core : Core) (taken : List Message) (sent : List Ending) (e : Ending) (last : Driving) (event : Event) (events : List Event) → Will waiting core taken sent e last (event ∷ events) →
    ran (driving core taken sent) events ≡ last → Will waiting core taken sent e last events
will_still waiting core taken sent e last event events will leads = record {
  leads = leads;
  more = will.more;
  sends = will.sends;
  handed = will.handed;
  later = will.later;
  front = will.front;
  all = will.all;
  counted = will.counted;
  told = will.told;
}

take_by : (d : ℕ) (m : Message) (waiting : List Message) (core : Core) (taken : List Message) (sent : List Ending) (e : Ending) (last : Driving) (events : List Event) → Later d e last events →
    Will waiting core taken sent e last (Take m ∷ events) → (may : Bool) → can_take core m ≡ may → Sends d waiting core taken sent e last
unfolding ran driver_step
take_by d m waiting core taken sent e last events rest will false is =
    rest waiting core taken sent (will_still waiting core taken sent e last (Take m) events will
    (ap (λ (test : Bool). ran (if test then driving (after_message core m) (taken ++ m ∷ []) sent else driving core taken sent) events) (sym is) ∙ will.leads))
take_by d m waiting core taken sent e last events rest will true is =
    subst (λ (xs : List Message). Sends d xs core taken sent e last) (sym waits.is)
    (take_before d m waits.left core taken sent e last is (rest waits.left (after_message core m) (taken ++ m ∷ []) sent (will_take m waiting core taken sent e last (Take m ∷ events) will waits events leads)))
  where
    leads : ran (driving (after_message core m) (taken ++ m ∷ []) sent) events ≡ last
    leads = ap (λ (test : Bool). ran (if test then driving (after_message core m) (taken ++ m ∷ []) sent else driving core taken sent) events) (sym is) ∙ will.leads

    some : 0 < length waiting
    some =
        let most = later_tells events (driving (after_message core m) (taken ++ m ∷ []) sent) e will.more (ap (λ (d : Driving). d.sent) leads ∙ will.sends) in
        let one = message_taken core m in
        let count = will.counted in
        let told = will.told in
        omega (arith, most, one, count, told)

    waits : Waits m waiting will.later
    waits = it_waits waiting will.later m some (next_taken taken (waiting ++ will.later) will.handed m (after_message core m) sent events last leads will.front will.all)

-- the ending that goes out is this one
is_first : (core : Core) (taken : List Message) (sent : List Ending) (e first : Ending) (more : List Ending) (last : Driving) (events : List Event) → ran (driving core taken (sent ++ first ∷ [])) events ≡ last →
    last.sent ≡ sent ++ (e ∷ more) → first ≡ e
is_first core taken sent e first more last events leads sends =
    let now : Driving = driving core taken (sent ++ first ∷ []) in
    let grows = ran_grows events now in
    let same : first ∷ grows.endings ≡ e ∷ more =
    behind_same sent (first ∷ grows.endings) (e ∷ more) (sym (append_assoc sent (first ∷ []) grows.endings) ∙ sym grows.sent ∙ ap (λ (d : Driving). d.sent) leads ∙ sends) in
    cc same

end_by : (d : ℕ) (waiting : List Message) (core : Core) (taken : List Message) (sent : List Ending) (e : Ending) (last : Driving) (events : List Event) → Later d e last events →
    Will waiting core taken sent e last (End ∷ events) → (out : Option Ending) → ending_out core ≡ out → Sends d waiting core taken sent e last
unfolding ran driver_step
end_by d waiting core taken sent e last events rest will None is =
    rest waiting core taken sent (will_still waiting core taken sent e last End events will
    (ap (λ (c : Core). ran (driving c taken sent) events) (sym (none_stays core is))
    ∙ ap (λ (xs : List Ending). ran (driving (after_ending core) taken xs) events) (sym (append-nil sent))
    ∙ ap (λ (out : Option Ending). ran (driving (after_ending core) taken (sent ++ listed out)) events) (sym is) ∙ will.leads))
end_by d waiting core taken sent e last events rest will (Some first) is = record {
  took = [];
  left = waiting;
  now = after_ending core;
  events = events;
  goes = goes_end d waiting core e (is ∙ ap (λ (it : Ending). Some it) same);
  parts = refl;
  run = ap (λ (xs : List Message). ran (driving (after_ending core) xs (sent ++ e ∷ [])) events) (append-nil taken)
      ∙ ap (λ (it : Ending). ran (driving (after_ending core) taken (sent ++ it ∷ [])) events) (sym same) ∙ leads;
  counted = ending_taken core ∙ will.counted ∙ ap (λ (xs : List Message). length xs) (sym (append-nil taken));
}
  where
    leads : ran (driving (after_ending core) taken (sent ++ first ∷ [])) events ≡ last
    leads = ap (λ (out : Option Ending). ran (driving (after_ending core) taken (sent ++ listed out)) events) (sym is) ∙ will.leads

    same : first ≡ e
    same = is_first (after_ending core) taken sent e first will.more last events leads will.sends

-- a driver goes on up to the next ending that it sends
pub will_send : (d : ℕ) (e : Ending) (last : Driving) (events : List Event) (waiting : List Message) (core : Core) (taken : List Message) (sent : List Ending) → Will waiting core taken sent e last events →
    Sends d waiting core taken sent e last
unfolding ran driver_step
will_send d e last [] waiting core taken sent will = absurd (never_longer sent e will.more (ap (λ (d : Driving). d.sent) will.leads ∙ will.sends))
will_send d e last (Take m ∷ events) waiting core taken sent will = take_by d m waiting core taken sent e last events (will_send d e last events) will (can_take core m) refl
will_send d e last (Block ∷ events) waiting core taken sent will =
    turn_before d waiting core taken sent e last (will_send d e last events waiting (after_block core) taken sent (record {
      leads = will.leads;
      more = will.more;
      sends = will.sends;
      handed = will.handed;
      later = will.later;
      front = will.front;
      all = will.all;
      counted = block_taken core ∙ will.counted;
      told = will.told;
    }))
will_send d e last (End ∷ events) waiting core taken sent will = end_by d waiting core taken sent e last events (will_send d e last events) will (ending_out core) refl

-- ---- all that is left, once the run is over

-- a driver goes on to where it ends, with all messages that were handed waiting
pub record Finishes (d : ℕ) (waiting : List Message) (core : Core) (out : List Ending) (taken : List Message) (sent : List Ending) (last : Driving) : Type 0 where
  pub took : List Message
  pub left : List Message
  pub now : Core
  pub sends : List Ending
  pub goes : Goes d (at_rest waiting core out) (at_rest left now (out ++ sends)) took sends
  pub parts : waiting ≡ took ++ left
  pub takes : last.taken ≡ taken ++ took
  pub sent_all : last.sent ≡ sent ++ sends

-- the rest of its events does so
abbrev pub Finish : ℕ → Side → List Message → Driving → List Event → Type 0
Finish d s handed last events = (waiting : List Message) (core : Core) (out : List Ending) (taken : List Message) (sent : List Ending) → ran (driving core taken sent) events ≡ last → IsFront last.taken handed →
    handed ≡ taken ++ waiting → Stands s core out waiting → Finishes d waiting core out taken sent last

finish_take : (d : ℕ) (s : Side) (handed : List Message) (m : Message) (waiting : List Message) (core : Core) (out : List Ending) (taken : List Message) (sent : List Ending) (last : Driving) (events : List Event) →
    Finish d s handed last events → IsFront last.taken handed → handed ≡ taken ++ waiting → Stands s core out waiting → (may : Bool) → can_take core m ≡ may →
    ran (if may then driving (after_message core m) (taken ++ m ∷ []) sent else driving core taken sent) events ≡ last → Finishes d waiting core out taken sent last
finish_take d s handed m waiting core out taken sent last events rest front all stands false is leads = rest waiting core out taken sent leads front all stands
finish_take d s handed m waiting core out taken sent last events rest front all stands true is leads =
    subst (λ (xs : List Message). Finishes d xs core out taken sent last) (sym next.is) (record {
      took = m ∷ later.took;
      left = later.left;
      now = later.now;
      sends = later.sends;
      goes = goes_then d _ _ _ (m ∷ []) later.took [] later.sends (goes_take d m next.behind core out is) later.goes;
      parts = ap (λ (xs : List Message). m ∷ xs) later.parts;
      takes = later.takes ∙ append_assoc taken (m ∷ []) later.took;
      sent_all = later.sent_all;
    })
  where
    next : IsNext m waiting
    next = next_taken taken waiting handed m (after_message core m) sent events last leads front all

    later : Finishes d next.behind (after_message core m) out (taken ++ m ∷ []) sent last
    later =
        rest next.behind (after_message core m) out (taken ++ m ∷ []) sent leads front
        (all ∙ ap (λ (xs : List Message). taken ++ xs) next.is ∙ sym (append_assoc taken (m ∷ []) next.behind))
        (takes s core out m next.behind (subst (λ (xs : List Message). Stands s core out xs) next.is stands))

finish_end : (d : ℕ) (s : Side) (handed waiting : List Message) (core : Core) (out : List Ending) (taken : List Message) (sent : List Ending) (last : Driving) (events : List Event) →
    Finish d s handed last events → IsFront last.taken handed → handed ≡ taken ++ waiting → Stands s core out waiting → (some : Option Ending) → ending_out core ≡ some →
    ran (driving (after_ending core) taken (sent ++ listed some)) events ≡ last → Finishes d waiting core out taken sent last
finish_end d s handed waiting core out taken sent last events rest front all stands None is leads =
    rest waiting core out taken sent
    (ap (λ (c : Core). ran (driving c taken sent) events) (sym (none_stays core is)) ∙ ap (λ (xs : List Ending). ran (driving (after_ending core) taken xs) events) (sym (append-nil sent)) ∙ leads)
    front all stands
finish_end d s handed waiting core out taken sent last events rest front all stands (Some e) is leads =
    subst (λ (xs : List Ending). Finishes d waiting core xs taken sent last) (sym none) (record {
      took = later.took;
      left = later.left;
      now = later.now;
      sends = e ∷ later.sends;
      goes = goes_then d _ _ _ [] later.took (e ∷ []) later.sends (goes_end d waiting core e is) later.goes;
      parts = later.parts;
      takes = later.takes;
      sent_all = later.sent_all ∙ append_assoc sent (e ∷ []) later.sends;
    })
  where
    none : out ≡ []
    none = has_room s core out waiting e stands is

    later : Finishes d waiting (after_ending core) (e ∷ []) taken (sent ++ e ∷ []) last
    later = rest waiting (after_ending core) (e ∷ []) taken (sent ++ e ∷ []) leads front all
        (ends s core [] waiting e (subst (λ (xs : List Ending). Stands s core xs waiting) none stands) is)

-- a driver goes on to where it ends
pub will_finish : (d : ℕ) (s : Side) (handed : List Message) (last : Driving) (events : List Event) → Finish d s handed last events
unfolding ran driver_step
will_finish d s handed last [] waiting core out taken sent leads front all stands = record {
  took = [];
  left = waiting;
  now = core;
  sends = [];
  goes = subst (λ (xs : List Ending). Goes d (at_rest waiting core out) (at_rest waiting core xs) [] []) (sym (append-nil out)) (goes_nowhere d (at_rest waiting core out));
  parts = refl;
  takes = ap (λ (d : Driving). d.taken) (sym leads) ∙ sym (append-nil taken);
  sent_all = ap (λ (d : Driving). d.sent) (sym leads) ∙ sym (append-nil sent);
}
will_finish d s handed last (Take m ∷ events) waiting core out taken sent leads front all stands =
    finish_take d s handed m waiting core out taken sent last events (will_finish d s handed last events) front all stands (can_take core m) refl leads
will_finish d s handed last (Block ∷ events) waiting core out taken sent leads front all stands =
    let later = will_finish d s handed last events waiting (after_block core) out taken sent leads front all (turns s core out waiting stands) in
    record {
      took = later.took;
      left = later.left;
      now = later.now;
      sends = later.sends;
      goes = goes_then d _ _ _ [] later.took [] later.sends (goes_block d waiting core out) later.goes;
      parts = later.parts;
      takes = later.takes;
      sent_all = later.sent_all;
    }
will_finish d s handed last (End ∷ events) waiting core out taken sent leads front all stands =
    finish_end d s handed waiting core out taken sent last events (will_finish d s handed last events) front all stands (ending_out core) refl leads
