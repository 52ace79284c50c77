-- The waits that ended, one after another.
use Rattle.std.proofs.Common.{◌≡◌, ℕ, ◌<◌, List, [], ◌∷◌, ◌++◌, Some, None, refl, sym, ◌∙◌, ap, append_assoc, append-nil, arith, drop, length}
use Rattle.std.specs.Prelude.{slice_get}
use Rattle.tk_types.specs.declared.script.Script.{Script}
use Rattle.tk_types.specs.declared.task.Release.{Release}
use Rattle.tk_types.specs.declared.line.Line.{Line}
use Rattle.kernel_model.specs.Tasks.Base.{Base, take_release}
use Rattle.machine_model.specs.States.State.{State}
use Rattle.machine_model.specs.Events.Follow.{Event, behind, follow_release, follow_each}

-- ---- the waits that ended

-- a state from which all ends of waits were taken
abbrev pub cleared : State → State
cleared st = record st { base = record st.base { released = [] } }

-- what is left to follow of a state
abbrev pub left_to_follow : Script → ℕ → State → Event
left_to_follow script n st = follow_each script n (cleared st) st.base.released

-- the state after the earliest end of a wait was taken
abbrev pub one_taken : State → State
one_taken st = record st { base = take_release st.base }

turn_at : (script : Script) (n : ℕ) (st : State) (released : List Release) (ended : Release) → slice_get released 0 ≡ Some ended →
    follow_each script n (cleared st) released ≡ behind (follow_release script n st ended).lines (follow_each script n (cleared (follow_release script n st ended).state) (drop 1 released))
unfolding follow_each follow_release
turn_at script n st [] ended at = absurd (cc at)
turn_at script n st (first ∷ rest) ended at = let same : first ≡ ended = cc at in rw same refl

-- the earliest end of a wait is followed, and then the others
pub turn : (script : Script) (n : ℕ) (st : State) (ended : Release) → slice_get st.base.released 0 ≡ Some ended →
    left_to_follow script n st ≡ behind (follow_release script n (one_taken st) ended).lines (left_to_follow script n (follow_release script n (one_taken st) ended).state)
unfolding follow_release
turn script n st ended at = turn_at script n st st.base.released ended at

none_there : (released : List Release) → slice_get released 0 ≡ None → released ≡ []
none_there [] at = refl
none_there (first ∷ rest) at = absurd (cc at)

-- without an end of a wait nothing is left to follow
pub none_left_to_follow : (script : Script) (n : ℕ) (st : State) → slice_get st.base.released 0 ≡ None → left_to_follow script n st ≡ record { state = one_taken st; lines = [] }
unfolding follow_each
none_left_to_follow script n st at =
    let none = none_there st.base.released at in
    ap (λ released. follow_each script n (cleared st) released) none
    ∙ ap {A = List Release} (λ released. record { state = record st { base = record st.base { released = released } }; lines = [] }) (sym (ap (drop 1) none))

-- ---- in the form of the loops

-- one turn over the waits that ended: `old` is the state at its beginning, `left` its base without the one that was taken
pub followed_more : (script : Script) (n : ℕ) (old st now : State) (left : Base) (ended : Release) (before lines : List Line) (whole : Event) (all : List Line) →
    old ≡ st → slice_get old.base.released 0 ≡ Some ended → left ≡ take_release old.base →
    now ≡ (follow_release script n (record old { base = left }) ended).state →
    lines ≡ before ++ (follow_release script n (record old { base = left }) ended).lines →
    (left_to_follow script n st).state ≡ whole.state → before ++ (left_to_follow script n st).lines ≡ all →
    record { state : (left_to_follow script n now).state ≡ whole.state; lines : lines ++ (left_to_follow script n now).lines ≡ all }
followed_more script n old st now left ended before lines whole all is at taken moved said state told =
    let mid : record old { base = left } ≡ one_taken old = ap {A = Base} (λ base. record old { base = base }) taken in
    let moved_at : now ≡ (follow_release script n (one_taken old) ended).state = moved ∙ ap (λ s. (follow_release script n s ended).state) mid in
    let said_at : lines ≡ before ++ (follow_release script n (one_taken old) ended).lines = said ∙ ap (λ s. before ++ (follow_release script n s ended).lines) mid in
    let one = turn script n old ended at in
    record {
      state = ap (λ s. (left_to_follow script n s).state) moved_at ∙ sym (ap (λ e. e.state) one) ∙ ap (λ s. (left_to_follow script n s).state) is ∙ state;
      lines =
          ap (λ ls. ls ++ (left_to_follow script n now).lines) said_at
          ∙ append_assoc before (follow_release script n (one_taken old) ended).lines (left_to_follow script n now).lines
          ∙ ap (λ s. before ++ ((follow_release script n (one_taken old) ended).lines ++ (left_to_follow script n s).lines)) moved_at
          ∙ sym (ap (λ e. before ++ e.lines) one)
          ∙ ap (λ s. before ++ (left_to_follow script n s).lines) is
          ∙ told;
    }

-- no wait that ended is left
pub followed_all : (script : Script) (n : ℕ) (old st : State) (left : Base) (before : List Line) (whole : Event) (all : List Line) →
    old ≡ st → slice_get old.base.released 0 ≡ None → left ≡ take_release old.base →
    (left_to_follow script n st).state ≡ whole.state → before ++ (left_to_follow script n st).lines ≡ all →
    record { state : record old { base = left } ≡ whole.state; lines : before ≡ all }
followed_all script n old st left before whole all is at taken state told =
    let mid : record old { base = left } ≡ one_taken old = ap {A = Base} (λ base. record old { base = base }) taken in
    let none = none_left_to_follow script n old at in
    record {
      state = mid ∙ sym (ap (λ e. e.state) none) ∙ ap (λ s. (left_to_follow script n s).state) is ∙ state;
      lines = sym (append-nil before) ∙ sym (ap (λ e. before ++ e.lines) none) ∙ ap (λ s. before ++ (left_to_follow script n s).lines) is ∙ told;
    }

shorter_at : (released : List Release) (ended : Release) → slice_get released 0 ≡ Some ended → length (drop 1 released) < length released
shorter_at [] ended at = absurd (cc at)
shorter_at (first ∷ rest) ended at = omega arith

-- each turn leaves fewer
pub fewer_left : (script : Script) (n : ℕ) (old st now : State) (left : Base) (ended : Release) →
    old ≡ st → slice_get old.base.released 0 ≡ Some ended → left ≡ take_release old.base →
    now ≡ (follow_release script n (record old { base = left }) ended).state → length now.base.released < length st.base.released
unfolding follow_release
fewer_left script n old st now left ended is at taken moved =
    let short = shorter_at old.base.released ended at in
    let same : length now.base.released ≡ length (drop 1 old.base.released) = ap (λ s. length s.base.released) moved ∙ ap (λ base. length base.released) taken in
    let had : length old.base.released ≡ length st.base.released = ap (λ s. length s.base.released) is in
    omega arith
