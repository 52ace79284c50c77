-- Each request that has ended aborted was asked to, among the moves that were made, while its driver had it.
use Rattle.std.proofs.Common.{◌≡◌, ℕ, zero, suc, Bool, true, false, List, [], ◌∷◌, ◌++◌, Option, Some, None, refl, ap, sym, subst, ◌∙◌, ◌⊎◌, inl, inr}
use Rattle.std.specs.Prelude.{if◌then◌else◌, slice_set, ◌<◌}
use Rattle.std.proofs.lemmas.List.{append-nil, append_assoc}
use Rattle.tk_types.specs.declared.line.How.{How}
use Rattle.kernel_model.specs.Words.Orders.{entry, without}
use Rattle.device_model.specs.declared.rows.Life.{Life}
use Rattle.device_model.specs.declared.rows.Life.TheVariants as life
use Rattle.device_model.specs.Devices.Tables.{Given, Link, Row, Devices, first_queued, given_in, is_at_driver, link_asked, link_at, request_in, row_at, accepted, accepted_in, asked, asked_given, asked_link, dropped, dropped_in, handed, handed_first, handed_given, handed_link, handed_row}
use Rattle.device_model.specs.Devices.Endings.{ended_at, is_allowed, served_of}
use Rattle.device_model.specs.Devices.MoveProofs.{is_aborted}
use Rattle.device_lemmas.proofs.Emptied.{emptied_given}
use Rattle.device_laws.specs.Asked.{AllWereAsked, HasRequest, WasAsked}
use Rattle.device_laws.specs.Moves.{Move, Opens, Wishes, Buffers, Offs, Accepts, Drops, Hands, Asks, Arrives, Takes, all_moved, ended, ended_given, ended_if, ended_link, ended_row, moved}
use Rattle.device_laws.specs.Requests.{AreTied, IsAway, NoneAborted, asked_in}
use Rattle.device_laws.proofs.Aborts.{plain_unless}
use Rattle.device_laws.proofs.Follows.{Change, Same, Went, Came, From, moved_follows}
use Rattle.device_laws.proofs.Leading.{fold_more}
use Rattle.device_laws.proofs.Lives.{from_before}
use Rattle.device_laws.proofs.Ties.{stay_tied}

-- ---- which request a driver was asked to abort, before a move and after it

abbrev asked_of : Option Given → Option ℕ
asked_of None = None
asked_of (Some given) = if given.asked then Some given.request.id else None

abbrev asked_id : Option Link → Option ℕ
asked_id link = asked_of (given_in link)

-- what is asked after it was asked before it
abbrev Less : Devices → Devices → Type 0
Less dv after = (d id : ℕ) → asked_id (link_at after d) ≡ Some id → asked_id (link_at dv d) ≡ Some id

set_less : (links : List (Option Link)) (i d id : ℕ) (slot : Option Link) → asked_id slot ≡ None → asked_id (entry (slice_set links i slot) d) ≡ Some id → asked_id (entry links d) ≡ Some id
set_less [] i d id slot none is = is
set_less (x ∷ links) zero zero id slot none is = absurd (cc (none, is))
set_less (x ∷ links) zero (suc d) id slot none is = is
set_less (x ∷ links) (suc i) zero id slot none is = is
set_less (x ∷ links) (suc i) (suc d) id slot none is = set_less links i d id slot none is

accepted_less : (dv : Devices) (id : ℕ) (row : Row) (slot : Option Row) → Less dv (accepted_in slot dv id row)
accepted_less dv id row None = λ d other is. is
accepted_less dv id row (Some other) = λ d other is. is

dropped_by : (dv : Devices) (away : Bool) (rows : List (Option Row)) (queued over : List ℕ) → Less dv (if away then dv else record dv { rows = rows; queued = queued; ended = over })
dropped_by dv true rows queued over = λ d id is. is
dropped_by dv false rows queued over = λ d id is. is

dropped_less : (dv : Devices) (id : ℕ) (slot : Option Row) → Less dv (dropped_in slot dv id)
dropped_less dv id None = λ d other is. is
dropped_less dv id (Some row) = dropped_by dv (is_at_driver row.life) (slice_set dv.rows id None) (without id dv.queued) (without id dv.ended)

handed_row_less : (dv : Devices) (d : ℕ) (link : Link) (id : ℕ) (slot : Option Row) → Less dv (handed_row dv d link id slot)
handed_row_less dv d link id None = λ other n is. is
handed_row_less dv d link id (Some row) = λ other n is. set_less dv.links d other n _ refl is

handed_first_less : (dv : Devices) (d : ℕ) (link : Link) (first : Option ℕ) → Less dv (handed_first dv d link first)
handed_first_less dv d link None = λ other n is. is
handed_first_less dv d link (Some id) = handed_row_less dv d link id (row_at dv id)

handed_given_less : (dv : Devices) (d : ℕ) (link : Link) (given : Option Given) → Less dv (handed_given dv d link given)
handed_given_less dv d link (Some given) = λ other n is. is
handed_given_less dv d link None = handed_first_less dv d link (first_queued dv d)

handed_link_less : (dv : Devices) (d : ℕ) (link : Option Link) → Less dv (handed_link dv d link)
handed_link_less dv d None = λ other n is. is
handed_link_less dv d (Some link) = handed_given_less dv d link link.given

ended_life_less : (dv : Devices) (d : ℕ) (link : Link) (given : Given) (how : How) (row : Row) (away : Bool) →
    Less dv (if away then ended_at dv d link given.request.id row (served_of link.kind link.store given.request how) else dv)
ended_life_less dv d link given how row false = λ other n is. is
ended_life_less dv d link given how row true = λ other n is. set_less dv.links d other n _ refl is

ended_row_less : (dv : Devices) (d : ℕ) (link : Link) (given : Given) (how : How) (slot : Option Row) → Less dv (ended_row dv d link given how slot)
ended_row_less dv d link given how None = λ other n is. is
ended_row_less dv d link given how (Some row) = ended_life_less dv d link given how row (is_at_driver row.life)

ended_if_less : (dv : Devices) (d : ℕ) (link : Link) (given : Given) (how : How) (allowed : Bool) → Less dv (ended_if allowed dv d link given how)
ended_if_less dv d link given how false = λ other n is. is
ended_if_less dv d link given how true = ended_row_less dv d link given how (row_at dv given.request.id)

ended_given_less : (dv : Devices) (d : ℕ) (link : Link) (how : How) (given : Option Given) → Less dv (ended_given dv d link how given)
ended_given_less dv d link how None = λ other n is. is
ended_given_less dv d link how (Some given) = ended_if_less dv d link given how (is_allowed link.kind link.store given how)

ended_link_less : (dv : Devices) (d : ℕ) (how : How) (link : Option Link) → Less dv (ended_link dv d how link)
ended_link_less dv d how None = λ other n is. is
ended_link_less dv d how (Some link) = ended_given_less dv d link how link.given

-- the request that a driver is asked to abort was with it, and it was asked before, or by this move
abbrev Comes : Devices → Move → ℕ → ℕ → Type 0
Comes dv move d id = (asked_id (link_at dv d) ≡ Some id) ⊎ ((move ≡ Asks d) × (request_in (given_in (link_at dv d)) ≡ Some id))

set_comes : (dv : Devices) (i : ℕ) (link : Link) (given : Given) → link_at dv i ≡ Some link → link.given ≡ Some given → (d id : ℕ) →
    asked_id (entry (slice_set dv.links i (Some (link_asked i link given))) d) ≡ Some id → Comes dv (Asks i) d id
set_comes dv i link given linked has d id is = by_slot (set_or dv.links i d id (Some (link_asked i link given)) is)
  where
    set_or : (links : List (Option Link)) (i d id : ℕ) (slot : Option Link) → asked_id (entry (slice_set links i slot) d) ≡ Some id → ((d ≡ i) × (asked_id slot ≡ Some id)) ⊎ (asked_id (entry links d) ≡ Some id)
    set_or [] i d id slot is = inr is
    set_or (x ∷ links) zero zero id slot is = inl (refl, is)
    set_or (x ∷ links) zero (suc d) id slot is = inr is
    set_or (x ∷ links) (suc i) zero id slot is = inr is
    set_or (x ∷ links) (suc i) (suc d) id slot is = up (set_or links i d id slot is)
      where
        up : ((d ≡ i) × (asked_id slot ≡ Some id)) ⊎ (asked_id (entry links d) ≡ Some id) → ((suc d ≡ suc i) × (asked_id slot ≡ Some id)) ⊎ (asked_id (entry links d) ≡ Some id)
        up (inl both) = inl (ap (λ (n : ℕ). suc n) both.0, both.1)
        up (inr old) = inr old

    by_slot : ((d ≡ i) × (asked_id (Some (link_asked i link given)) ≡ Some id)) ⊎ (asked_id (link_at dv d) ≡ Some id) → Comes dv (Asks i) d id
    by_slot (inr old) = inl old
    by_slot (inl written) = inr (
      ap (λ (n : ℕ). Asks n) (sym written.0),
      ap (λ (n : ℕ). request_in (given_in (link_at dv n))) written.0 ∙ (ap (λ (o : Option Link). request_in (given_in o)) linked ∙ (ap request_in has ∙ written.1)),
    )

asked_by : (dv : Devices) (i : ℕ) (link : Link) (given : Given) (so : Bool) → link_at dv i ≡ Some link → link.given ≡ Some given → (d id : ℕ) →
    asked_id (link_at (if so then dv else record dv { links = slice_set dv.links i (Some (link_asked i link given)) }) d) ≡ Some id → Comes dv (Asks i) d id
asked_by dv i link given true linked has d id is = inl is
asked_by dv i link given false linked has d id is = set_comes dv i link given linked has d id is

asked_by_given : (dv : Devices) (i : ℕ) (link : Link) → link_at dv i ≡ Some link → (given : Option Given) → link.given ≡ given → (d id : ℕ) → asked_id (link_at (asked_given dv i link given) d) ≡ Some id → Comes dv (Asks i) d id
asked_by_given dv i link linked None has d id is = inl is
asked_by_given dv i link linked (Some given) has d id is = asked_by dv i link given given.asked linked has d id is

asked_by_link : (dv : Devices) (i : ℕ) (link : Option Link) → link_at dv i ≡ link → (d id : ℕ) → asked_id (link_at (asked_link dv i link) d) ≡ Some id → Comes dv (Asks i) d id
asked_by_link dv i None linked d id is = inl is
asked_by_link dv i (Some link) linked d id is = asked_by_given dv i link linked link.given refl d id is

comes : (dv : Devices) (move : Move) (d id : ℕ) → asked_id (link_at (moved dv move) d) ≡ Some id → Comes dv move d id
unfolding moved accepted dropped handed asked ended
comes dv (Opens dd slot) d id is = inl is
comes dv (Wishes t wish) d id is = inl is
comes dv (Buffers i buffer) d id is = inl is
comes dv (Offs off) d id is = inl is
comes dv (Accepts i row new) d id is = inl (accepted_less dv i row (row_at dv i) d id is)
comes dv (Drops i) d id is = inl (dropped_less dv i (row_at dv i) d id is)
comes dv (Hands i) d id is = inl (handed_link_less dv i (link_at dv i) d id is)
comes dv (Asks i) d id is = asked_by_link dv i (link_at dv i) refl d id is
comes dv (Arrives i how) d id is = inl (ended_link_less dv i how (link_at dv i) d id is)
comes dv Takes d id is = inl (ap asked_of (sym (emptied_given dv d)) ∙ is)

-- ---- what is known after moves

record IsTold (first : Devices) (moves : List Move) (dv : Devices) : Type 0 where
  pub is : all_moved first moves ≡ dv
  pub tied : AreTied dv
  pub ended : (id : ℕ) (row : Row) → row_at dv id ≡ Some row → is_aborted row.life ≡ true → WasAsked first moves row.serial
  pub asks : (d id : ℕ) (row : Row) → asked_id (link_at dv d) ≡ Some id → row_at dv id ≡ Some row → WasAsked first moves row.serial

-- one move more
more : (first : Devices) (moves : List Move) (move : Move) (serial other : ℕ) → serial ≡ other → WasAsked first moves serial → WasAsked first (moves ++ move ∷ []) other
more first moves move serial other same was = record {
  front = was.front;
  device = was.device;
  rest = was.rest ++ move ∷ [];
  among = ap (λ (all : List Move). all ++ move ∷ []) was.among ∙ append_assoc was.front (Asks was.device ∷ was.rest) (move ∷ []);
  had = record { link = was.had.link; given = was.had.given; row = was.had.row; linked = was.had.linked; has = was.had.has; there = was.had.there; same = was.had.same ∙ same };
}

-- a request that is with a driver
given_by : (given : Option Given) (id : ℕ) → request_in given ≡ Some id → (it : Given) × (given ≡ Some it) × (it.request.id ≡ id)
given_by None id is = absurd (cc is)
given_by (Some given) id is = (given, refl, ap (λ (o : Option ℕ). number_or o) is)
  where
    number_or : Option ℕ → ℕ
    number_or None = 0
    number_or (Some n) = n

has_by : (dv : Devices) (d id : ℕ) (row : Row) → row_at dv id ≡ Some row → (link : Option Link) → link_at dv d ≡ link → request_in (given_in link) ≡ Some id → HasRequest dv d row.serial
has_by dv d id row there None linked is = absurd (cc is)
has_by dv d id row there (Some link) linked is =
    let held = given_by link.given id is in
    record { link = link; given = held.0; row = row; linked = linked; has = held.1; there = ap (λ (n : ℕ). row_at dv n) held.2 ∙ there; same = refl }

-- the driver is asked now
asked_now : (first : Devices) (moves : List Move) (dv : Devices) (move : Move) (d id : ℕ) (row : Row) → all_moved first moves ≡ dv → move ≡ Asks d → request_in (given_in (link_at dv d)) ≡ Some id → row_at dv id ≡ Some row →
    WasAsked first (moves ++ move ∷ []) row.serial
asked_now first moves dv move d id row is asks given there = record {
  front = moves;
  device = d;
  rest = [];
  among = ap (λ (last : Move). moves ++ last ∷ []) asks;
  had = subst (λ (now : Devices). HasRequest now d row.serial) (sym is) (has_by dv d id row there (link_at dv d) refl given);
}

asked_there : (given : Option Given) (id : ℕ) → asked_of given ≡ Some id → request_in given ≡ Some id
asked_there None id is = absurd (cc is)
asked_there (Some given) id is = by_word given.asked is
  where
    by_word : (so : Bool) → (if so then Some given.request.id else None) ≡ Some id → Some given.request.id ≡ Some id
    by_word true same = same
    by_word false same = absurd (cc same)

abbrev life_or : Option Row → Life
life_or None = life.Queued
life_or (Some row) = row.life

-- a request that is with a driver is so by the table, too
away_there : (dv : Devices) (d id : ℕ) (row : Row) → AreTied dv → row_at dv id ≡ Some row → (link : Option Link) → link_at dv d ≡ link → request_in (given_in link) ≡ Some id → is_at_driver row.life ≡ true
away_there dv d id row tied there None linked is = absurd (cc is)
away_there dv d id row tied there (Some link) linked is =
    let held = given_by link.given id is in
    let away : IsAway dv d held.0.request.id = tied.given d link held.0 linked held.1 in
    ap (λ (o : Option Row). is_at_driver (life_or o)) (sym there ∙ (ap (λ (n : ℕ). row_at dv n) (sym held.2) ∙ away.there)) ∙ away.away

-- one that has ended aborted did so before, or its driver was asked
ended_next : (first : Devices) (moves : List Move) (dv : Devices) (move : Move) → IsTold first moves dv → (id : ℕ) (row : Row) → (from : From dv id row) → is_aborted row.life ≡ true → WasAsked first (moves ++ move ∷ []) row.serial
ended_next first moves dv move told id row from over = by_change from.change
  where
    by_given : (given : Given) (d : ℕ) (link : Link) → link_at dv d ≡ Some link → link.given ≡ Some given → row_at dv given.request.id ≡ Some from.before → given.asked ≡ true → WasAsked first (moves ++ move ∷ []) row.serial
    by_given given d link linked has its so =
        more first moves move from.before.serial row.serial (sym (from_before dv id row from))
        (told.asks d given.request.id from.before (ap (λ (o : Option Link). asked_id o) linked ∙ (ap asked_of has ∙ ap (λ (b : Bool). if b then Some given.request.id else None) so)) its)

    by_word : (given : Given) (d : ℕ) (link : Link) (how : How) → link_at dv d ≡ Some link → link.given ≡ Some given → is_allowed link.kind link.store given how ≡ true → row_at dv given.request.id ≡ Some from.before →
        row ≡ record from.before { life = life.Ended (served_of link.kind link.store given.request how).size (served_of link.kind link.store given.request how).error } → (so : Bool) → given.asked ≡ so → WasAsked first (moves ++ move ∷ []) row.serial
    by_word given d link how linked has fit its is true so = by_given given d link linked has its so
    by_word given d link how linked has fit its is false so =
        let plain : is_aborted row.life ≡ false = ap (λ (r : Row). is_aborted r.life) is ∙ plain_unless link.kind link.store given how fit so in absurd (cc (plain, over))

    by_change : Change dv from.before row → WasAsked first (moves ++ move ∷ []) row.serial
    by_change (Same is) =
        more first moves move from.before.serial row.serial (sym (from_before dv id row from)) (told.ended id from.before from.there (ap (λ (r : Row). is_aborted r.life) (sym is) ∙ over))
    by_change (Went queued is) = let plain : is_aborted row.life ≡ false = ap (λ (r : Row). is_aborted r.life) is in absurd (cc (plain, over))
    by_change (Came away d link given how linked has fit its is) = by_word given d link how linked has fit its is given.asked refl

told_next : (first : Devices) (moves : List Move) (dv : Devices) (move : Move) → IsTold first moves dv → IsTold first (moves ++ move ∷ []) (moved dv move)
unfolding all_moved
told_next first moves dv move told = record {
  is = fold_more moves move first ∙ ap (λ (now : Devices). moved now move) told.is;
  tied = tied_now;
  ended = λ id row there over. by_row id row over ((moved_follows dv move).rows id row there);
  asks = λ d id row is there. by_both d id row is there ((moved_follows dv move).rows id row there) (comes dv move d id is);
}
  where
    tied_now : AreTied (moved dv move)
    tied_now = stay_tied (move ∷ []) dv told.tied

    by_row : (id : ℕ) (row : Row) → is_aborted row.life ≡ true → ((id ≡ (moved_follows dv move).fresh) × (row.serial ≡ dv.serial) × (dv.serial < (moved dv move).serial) × (is_aborted row.life ≡ false) × (is_at_driver row.life ≡ false)) ⊎ From dv id row →
        WasAsked first (moves ++ move ∷ []) row.serial
    by_row id row over (inl new) = absurd (cc (new.3, over))
    by_row id row over (inr from) = ended_next first moves dv move told id row from over

    by_both : (d id : ℕ) (row : Row) → asked_id (link_at (moved dv move) d) ≡ Some id → row_at (moved dv move) id ≡ Some row →
        ((id ≡ (moved_follows dv move).fresh) × (row.serial ≡ dv.serial) × (dv.serial < (moved dv move).serial) × (is_aborted row.life ≡ false) × (is_at_driver row.life ≡ false)) ⊎ From dv id row → Comes dv move d id → WasAsked first (moves ++ move ∷ []) row.serial
    by_both d id row is there (inl new) come =
        let away : is_at_driver row.life ≡ true = away_there (moved dv move) d id row tied_now there (link_at (moved dv move) d) refl (asked_there (given_in (link_at (moved dv move) d)) id is) in absurd (cc (new.4, away))
    by_both d id row is there (inr from) (inl before) = more first moves move from.before.serial row.serial (sym (from_before dv id row from)) (told.asks d id from.before before from.there)
    by_both d id row is there (inr from) (inr now) =
        subst (λ (serial : ℕ). WasAsked first (moves ++ move ∷ []) serial) (sym (from_before dv id row from)) (asked_now first moves dv move d id from.before told.is now.0 now.1 from.there)

told_all : (first : Devices) (later moves all : List Move) (dv : Devices) → moves ++ later ≡ all → IsTold first moves dv → IsTold first all (all_moved dv later)
unfolding all_moved
told_all first [] moves all dv is told = subst (λ (list : List Move). IsTold first list dv) (sym (append-nil moves) ∙ is) told
told_all first (move ∷ later) moves all dv is told = told_all first later (moves ++ move ∷ []) all (moved dv move) (append_assoc moves (move ∷ []) later ∙ is) (told_next first moves dv move told)

unasked : (given : Option Given) (id : ℕ) → asked_in given ≡ false → asked_of given ≡ Some id → ⊥
unasked None id none is = cc is
unasked (Some given) id none is = let nothing : asked_of (Some given) ≡ None = ap (λ (b : Bool). if b then Some given.request.id else None) none in cc (nothing, is)

-- where no driver was asked and none has ended aborted, each that has ended aborted later was asked to in between
pub all_were_asked : (dv : Devices) (moves : List Move) → AreTied dv → NoneAborted dv → AllWereAsked dv moves
unfolding all_moved
all_were_asked dv moves tied none = (told_all dv moves [] moves dv refl first).ended
  where
    first : IsTold dv [] dv
    first = record {
      is = refl;
      tied = tied;
      ended = λ id row there over. let plain = none.requests id row there in absurd (cc (plain, over));
      asks = λ d id row is there. absurd (unasked (given_in (link_at dv d)) id (none.drivers d) is);
    }
