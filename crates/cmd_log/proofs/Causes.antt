-- Which commands lie behind a call, in the room of a session that goes on from one to the next, and by which of them a call was refused.
use Rattle.std.proofs.Common.{◌≡◌, ◌⊎◌, inl, inr, ⊎_elim, ℕ, zero, suc, ◌+◌, ◌-◌, ◌*◌, ◌^◌, ◌<◌, ◌≤◌, Bool, true, false, IsTrue, List, [], ◌∷◌, ◌++◌, length, map, Option, unwrap_or, refl, sym, ap, ◌∙◌, subst, arith}
use Rattle.std.proofs.lemmas.Bool.{cases_Bool, leb-true}
use Rattle.std.proofs.lemmas.List.{map-append}
use Rattle.std.specs.List.{AllByRecursion}
use Rattle.base_types.specs.Counts.{after_call}
use Rattle.layout_geometry.specs.Geometry.{Geometry}
use Rattle.lang_tree.specs.declared.command.Cmd.{Cmd}
use Rattle.lang_tree.specs.declared.command.Refusal.{Refusal}
use Rattle.lang_tree.specs.declared.command.Refusal.TheVariants as because
use Rattle.lang_tree.specs.declared.command.Reply.{Reply}
use Rattle.lang_tree.specs.declared.command.Reply.TheVariants as replied
use Rattle.lang_tree.specs.Step.{Session}
use Rattle.lang_tree.specs.Tree.{Tree}
use Rattle.lang_log.specs.declared.call.LogCall.{LogCall}
use Rattle.lang_log.specs.declared.call.LogCall.TheVariants.{Append, Bad, Count, Get, Order, Sync, Trim}
use Rattle.lang_log.specs.declared.call.LogReply.{LogReply}
use Rattle.lang_log.specs.declared.call.LogReply.TheVariants as answered
use Rattle.lang_log.specs.Answers.{AnswersLog}
use Rattle.lang_log.specs.History.{History}
use Rattle.lang_log.specs.Log.{IsLogOf}
use Rattle.lang_log.specs.Names.{segment_path}
use Rattle.crash_stands.specs.Stands.{IsTreeOf}
use Rattle.engine_blocks.specs.State.{State}
use Rattle.fs_commands.specs.Opened.{blocks_in}
use Rattle.fs_session.specs.Applying.{Applies, is_spent}
use Rattle.fs_session.specs.DiskRoom.{AnswersOn, RunsOn}
use Rattle.fs_session.specs.Memory.{room_of}
use Rattle.fs_session.specs.Points.{TellsPoints}
use Rattle.fs_session.specs.Room.{Room}
use Rattle.fs_session.specs.Sessions.{IsSession}
use Rattle.fs_log.specs.Causes.{HasLogCause, RemovesSegments, WasAnswered, WritesAppend}
use Rattle.fs_log.specs.Open.{Mirrors, Open, size_of, state_in}
use Rattle.fs_log.specs.Opening.{AsksToOpen}
use Rattle.fs_log.specs.Ways.{AnswersAll, IsQuestion, Way, WayTo}
use Rattle.cmd_image.specs.Refusals.{CountsByReply, is_failed}
use Rattle.cmd_image.specs.Runs.{IsSpentByNumbers}
use Rattle.cmd_log.specs.Answering.{Asks, IfRefused, IsAnswered}
use Rattle.cmd_log.specs.Causes.{AnswersBy, CallsGo, EndsRefused, MayAsk, Ran, Situation, firsts_of}
use Rattle.cmd_log.specs.Steps.{IsAt}

-- What fs_session and cmd_image say of the reply to a command.
pub record ReplyLaws {S : Type 0} (tells : Bool) (state : S → State) : Type 1 where
  pub read : (old new : S) (f : Session) (cmd : Cmd) (reply : Reply) → IsSession (state old) f → Applies tells state cmd reply old new → reply ≡ replied.Refused because.ReadFault → 0 < (state new).counts.read_faults
  pub stopped : (old new : S) (f : Session) (cmd : Cmd) (reply : Reply) → IsSession (state old) f → Applies tells state cmd reply old new → reply ≡ replied.Refused because.Stopped → (state old).books.stopped ≡ true
  pub spent : (old new : S) (f : Session) (cmd : Cmd) (reply : Reply) → IsSession (state old) f → Applies tells state cmd reply old new → reply ≡ replied.Refused because.Spent → is_spent (state old).books ≡ true
  pub counts : (old new : S) (f : Session) (cmd : Cmd) (reply : Reply) → IsSession (state old) f → Applies tells state cmd reply old new → CountsByReply reply (state old).counts (state new).counts
  pub points : (old new : S) (f : Session) (cmd : Cmd) (reply : Reply) (begun : ℕ) → IsSession (state old) f → Applies tells state cmd reply old new → TellsPoints f cmd reply begun (state old) (state new)
  pub rooms : (old new : S) (f : Session) (cmd : Cmd) (reply : Reply) → IsSession (state old) f → Applies tells state cmd reply old new
      → (next : Session) × IsSession (state new) next × ((state new).books.geom ≡ (state old).books.geom) × AnswersOn (state old).books.geom f (room_of (state old)) cmd reply next (room_of (state new))
  pub turns : (old new : S) (cmd : Cmd) (reply : Reply) → Applies tells state cmd reply old new → (state new).books.turns ≤ (state old).books.turns + 2 ^ 20

pub counted_one : (failed : Bool) (n m : ℕ) → failed ≡ true → m ≡ after_call failed n → 0 < m
counted_one true n m is counts = omega (arith, counts)
counted_one false n m is counts = absurd cc

counted_still : (failed : Bool) (n m : ℕ) → 0 < n → m ≡ after_call failed n → 0 < m
counted_still true n m some counts = omega (arith, counts)
counted_still false n m some counts = omega (arith, some, counts)

-- a refusal as Spent, first or later
spent_more : (n : ℕ) (r : Reply) (rs : List Reply) → (r ≡ replied.Refused because.Spent → 2 ^ 63 - 8 ≤ n) → IsSpentByNumbers (n + 2 ^ 20) rs → IsSpentByNumbers n (r ∷ rs)
spent_more n r rs first later zero is = omega (arith, first (ap (λ (o : Option Reply). unwrap_or o r) is))
spent_more n r rs first later (suc i) is = omega (arith, later i is)

-- blocks that have stopped have counted a call that failed
abbrev pub CountsStop : State → Type 0
CountsStop s = s.books.stopped ≡ true → 0 < s.counts.faults

abbrev cmds_of : List (Cmd × Reply) → List Cmd
cmds_of asked = map (λ (x : Cmd × Reply). x.0) asked

abbrev replies_of : List (Cmd × Reply) → List Reply
replies_of asked = map (λ (x : Cmd × Reply). x.1) asked

-- What commands that were answered in turn lead to.
pub record Leads (g : Geometry) (may : Cmd → Type 0) (asked : List (Cmd × Reply)) (at : Situation) (s : State) : Type 0 where
  pub next : Situation
  pub is : IsAt s next
  pub geom : s.books.geom ≡ g
  pub are : AllByRecursion may (cmds_of asked)
  pub rooms : RunsOn g at.session at.room (cmds_of asked) (replies_of asked) next.session next.room
  pub numbers : next.numbers ≡ at.numbers + length (cmds_of asked) * 2 ^ 20
  pub spent : IsSpentByNumbers at.numbers (replies_of asked)
  pub over : CountsStop s

module _ {S : Type 0} (tells : Bool) (state : S → State) (laws : ReplyLaws tells state) where
  over_one : (cmd : Cmd) (reply : Reply) (old new : S) (f : Session) → IsSession (state old) f → Applies tells state cmd reply old new → CountsStop (state old) → CountsStop (state new)
  over_one cmd reply old new f session applies over stopped =
      let counts = (laws.counts old new f cmd reply session applies).faults in
      ⊎_elim (λ on. counted_still (is_failed reply) (state old).counts.faults (state new).counts.faults (over on) counts)
      (λ off. counted_one (is_failed reply) (state old).counts.faults (state new).counts.faults (ap is_failed ((laws.points old new f cmd reply 0 session applies).calm off stopped)) counts)
      (cases_Bool (state old).books.stopped)

  spent_one : (cmd : Cmd) (reply : Reply) (old new : S) (at : Situation) → IsAt (state old) at → Applies tells state cmd reply old new → reply ≡ replied.Refused because.Spent → 2 ^ 63 - 8 ≤ at.numbers
  spent_one cmd reply old new at h applies is = omega (arith, h.numbers, leb-true (2 ^ 63 - 8) (state old).books.turns (laws.spent old new at.session cmd reply h.session applies is))

  pub leads : (may : Cmd → Type 0) (asked : List (Cmd × Reply)) (old new : S) (at : Situation) → IsAt (state old) at → CountsStop (state old) → AnswersAll tells state may asked old new → Leads (state old).books.geom may asked at (state new)
  leads may [] old new at h over same = record {
    next = at;
    is = subst (λ (s : S). IsAt (state s) at) (sym same) h;
    geom = ap (λ (s : S). (state s).books.geom) same;
    are = tt;
    rooms = (refl, refl);
    numbers = omega arith;
    spent = λ i none. absurd cc;
    over = subst (λ (s : S). CountsStop (state s)) (sym same) over;
  }
  leads may (one ∷ later) old new at h over all =
      let mid = all.0 in
      let x = laws.rooms old mid at.session one.0 one.1 h.session all.2 in
      let then_at : Situation = record { session = x.0; room = room_of (state mid); numbers = at.numbers + 2 ^ 20 } in
      let rest = leads may later mid new then_at (record { session = x.1; room = refl; numbers = omega (arith, h.numbers, laws.turns old mid one.0 one.1 all.2) }) (over_one one.0 one.1 old mid at.session h.session all.2 over) all.3 in
      record {
        next = rest.next;
        is = rest.is;
        geom = rest.geom ∙ x.2;
        are = (all.1, rest.are);
        rooms = (
          x.0,
          room_of (state mid),
          subst (λ (r : Room). AnswersOn (state old).books.geom at.session r one.0 one.1 x.0 (room_of (state mid))) (sym h.room) x.3,
          subst (λ (g : Geometry). RunsOn g x.0 (room_of (state mid)) (cmds_of later) (replies_of later) rest.next.session rest.next.room) x.2 rest.rooms,
        );
        numbers = omega (arith, rest.numbers);
        spent = spent_more at.numbers one.1 (replies_of later) (spent_one one.0 one.1 old mid at h all.2) rest.spent;
        over = rest.over;
      }

all_so : (P Q : Cmd → Type 0) → ((c : Cmd) → P c → Q c) → (cmds : List Cmd) → AllByRecursion P cmds → AllByRecursion Q cmds
all_so P Q so [] all = tt
all_so P Q so (c ∷ cmds) all = (so c all.0, all_so P Q so cmds all.1)

-- such commands, where each is one of others or a question
pub ran_by : (g : Geometry) (may cmds : Cmd → Type 0) (asked : List (Cmd × Reply)) (at : Situation) (s : State) → ((c : Cmd) → may c → cmds c ⊎ IsQuestion c) → (l : Leads g may asked at s) → Ran g cmds at l.next
ran_by g may cmds asked at s so l = record {
  asked = cmds_of asked;
  replies = replies_of asked;
  are = all_so may (λ c. cmds c ⊎ IsQuestion c) so (cmds_of asked) l.are;
  rooms = l.rooms;
  numbers = l.numbers;
  spent = l.spent;
}

-- the last of them was refused
pub ends_by : (asked before : List (Cmd × Reply)) (last : Cmd) (why : Refusal) → asked ≡ before ++ (last, replied.Refused why) ∷ [] → EndsRefused (replies_of asked) why
ends_by asked before last why is = (replies_of before, ap replies_of is ∙ map-append (λ (x : Cmd × Reply). x.1) before ((last, replied.Refused why) ∷ []))

-- What a call asks, as the tree has the log.
module _ {S : Type 0} (state : S → State) (l : Open S) (m : Mirrors (state_in state l) l.firsts l.size l.next) (t : Tree) (tree : IsTreeOf (state_in state l).books.geom (state_in state l).map t) (most : ℕ) (most_is : l.most ≡ most) where
  log_is : IsLogOf t m.log
  log_is = record { segments = m.segments; has = m.holds.has t tree; made = m.holds.made }

  pub asks_in : (call : LogCall) (cmd : Cmd) → Asks l call cmd → MayAsk most t call cmd ⊎ IsQuestion cmd
  unfolding log_is
  asks_in (Append bytes) cmd asked = inl (
    m.log,
    log_is,
    subst (λ (n : ℕ). WritesAppend most (firsts_of m.segments) (size_of m.segments) n bytes cmd) m.next_is
        (subst (λ (n : ℕ). WritesAppend most (firsts_of m.segments) n l.next bytes cmd) m.size_is
        (subst (λ (q : List ℕ). WritesAppend most q l.size l.next bytes cmd) m.firsts_are
        (subst (λ (n : ℕ). WritesAppend n l.firsts l.size l.next bytes cmd) most_is asked))),
  )
  asks_in (Get number) cmd (first, last, (offset, is)) = inr (inr (inr (segment_path first, offset, 65540, is)))
  asks_in (Trim number) cmd asked = inl (m.log, log_is, subst (λ (q : List ℕ). RemovesSegments q number cmd) m.firsts_are asked)
  asks_in Count cmd asked = absurd asked
  asks_in Order cmd asked = inl asked
  asks_in Sync cmd asked = inl asked
  asks_in Bad cmd asked = absurd asked

-- One call.

-- What a call that was answered so leads to, from such a situation.
pub record LeadsCall (call : LogCall) (reply : LogReply) (at : Situation) (old new : State) : Type 0 where
  pub next : Situation
  pub is : IsAt new next
  pub by : AnswersBy old.books.geom 1048576 call reply at next
  pub over : CountsStop new

module _ {S : Type 0} (tells : Bool) (state : S → State) (told : IsTrue tells) (laws : ReplyLaws tells state) (call : LogCall) (old new : Open S) (mirrors : Mirrors (state_in state old) old.firsts old.size old.next) (most : old.most ≡ 1048576) (at : Situation) (h : IsAt (state_in state old) at) (over : CountsStop (state_in state old)) where
  abbrev shape : Geometry
  shape = (state_in state old).books.geom

  abbrev May : Cmd → Type 0
  May cmd = Asks old call cmd ⊎ IsQuestion cmd

  so : (cmd : Cmd) → May cmd → MayAsk 1048576 at.session.tree call cmd ⊎ IsQuestion cmd
  so cmd (inl asked) = asks_in state old mirrors at.session.tree h.session.tree 1048576 most call cmd asked
  so cmd (inr question) = inr question

  led : (asked : List (Cmd × Reply)) → AnswersAll tells state May asked (blocks_in old.fs) (blocks_in new.fs) → Leads shape May asked at (state_in state new)
  led asked all = leads tells state laws May asked (blocks_in old.fs) (blocks_in new.fs) at h over all

  done : (reply : LogReply) → ((P : Refusal → Type 0) → IfRefused reply P) → Way tells state (Asks old call) (blocks_in old.fs) (blocks_in new.fs) → LeadsCall call reply at (state_in state old) (state_in state new)
  done reply none w =
      let l = led w.asked w.answered in
      record { next = l.next; is = l.is; by = record { ran = ran_by shape May (MayAsk 1048576 at.session.tree call) w.asked at (state_in state new) so l; cause = none _; late = none _ }; over = l.over }

  refused : (why : Refusal) → HasLogCause tells state (Asks old call) why (blocks_in old.fs) (blocks_in new.fs) → LeadsCall call (answered.Refused why) at (state_in state old) (state_in state new)
  unfolding ran_by
  refused why c = by c.cause
    where
      by : ((why ≡ because.NoMemory) × (IsTrue tells → Way tells state (Asks old call) (blocks_in old.fs) (blocks_in new.fs))) ⊎ WasAnswered tells state (Asks old call) (replied.Refused why) (blocks_in old.fs) (blocks_in new.fs)
          → LeadsCall call (answered.Refused why) at (state_in state old) (state_in state new)
      by (inl (memory, way)) =
          let w = way told in
          let l = led w.asked w.answered in
          record { next = l.next; is = l.is; by = record { ran = ran_by shape May (MayAsk 1048576 at.session.tree call) w.asked at (state_in state new) so l; cause = inl memory; late = (c.late told, c.fits told) }; over = l.over }
      by (inr was) =
          let w = was.way told in
          let l = led w.way.asked w.way.answered in
          record {
            next = l.next;
            is = l.is;
            by = record {
              ran = ran_by shape May (MayAsk 1048576 at.session.tree call) w.way.asked at (state_in state new) so l;
              cause = inr (ends_by w.way.asked w.before w.last why w.is);
              late = (c.late told, c.fits told);
            };
            over = l.over;
          }

  pub leads_call : (reply : LogReply) → IsAnswered tells state call reply old new → LeadsCall call reply at (state_in state old) (state_in state new)
  leads_call (answered.Number number) x = done (answered.Number number) (λ P. tt) (x.asked told)
  leads_call (answered.Bytes bytes) x = done (answered.Bytes bytes) (λ P. tt) (x.asked told)
  leads_call (answered.Low low) x = done (answered.Low low) (λ P. tt) (x.asked told)
  leads_call (answered.Range low next) x = done (answered.Range low next) (λ P. tt) (x.asked told)
  leads_call (answered.Ordered point) x = done (answered.Ordered point) (λ P. tt) (x.asked told)
  leads_call (answered.Durable point) x = done (answered.Durable point) (λ P. tt) (x.asked told)
  leads_call answered.Bad x = done answered.Bad (λ P. tt) (x.asked told)
  leads_call (answered.NoRecord low next) x = done (answered.NoRecord low next) (λ P. tt) (x.asked told)
  leads_call answered.TooLong x = done answered.TooLong (λ P. tt) (x.asked told)
  leads_call answered.LogEnd x = done answered.LogEnd (λ P. tt) (x.asked told)
  leads_call (answered.Refused why) x = ⊎_elim (λ cause. refused why cause) (λ misread. absurd (misread.1.0 told)) x.cause

-- The opening.

-- What the commands of an opening lead to.
pub record LeadsOpen (at : Situation) (old new : State) : Type 0 where
  pub next : Situation
  pub is : IsAt new next
  pub ran : Ran old.books.geom AsksToOpen at next
  pub over : CountsStop new

-- An opening that was refused for want of room.
pub record OpensNot (why : Refusal) (at : Situation) (old : State) : Type 0 where
  pub end : Situation
  pub ran : Ran old.books.geom AsksToOpen at end
  pub refused : EndsRefused ran.replies why

module _ {S : Type 0} (tells : Bool) (state : S → State) (laws : ReplyLaws tells state) (old new : S) (at : Situation) (h : IsAt (state old) at) (over : CountsStop (state old)) where
  opens : (cmd : Cmd) → AsksToOpen cmd ⊎ IsQuestion cmd → AsksToOpen cmd ⊎ IsQuestion cmd
  opens cmd asked = asked

  pub leads_open : Way tells state AsksToOpen old new → LeadsOpen at (state old) (state new)
  leads_open w =
      let l = leads tells state laws (λ cmd. AsksToOpen cmd ⊎ IsQuestion cmd) w.asked old new at h over w.answered in
      record { next = l.next; is = l.is; ran = ran_by (state old).books.geom (λ cmd. AsksToOpen cmd ⊎ IsQuestion cmd) AsksToOpen w.asked at (state new) opens l; over = l.over }

  pub opens_not : (why : Refusal) → WayTo tells state AsksToOpen (replied.Refused why) old new → OpensNot why at (state old)
  unfolding ran_by
  opens_not why w =
      let l = leads tells state laws (λ cmd. AsksToOpen cmd ⊎ IsQuestion cmd) w.way.asked old new at h over w.way.answered in
      record { end = l.next; ran = ran_by (state old).books.geom (λ cmd. AsksToOpen cmd ⊎ IsQuestion cmd) AsksToOpen w.way.asked at (state new) opens l; refused = ends_by w.way.asked w.before w.last why w.is }

-- calls with one more
pub calls_more : (g : Geometry) (most : ℕ) (at end next : Situation) (h k mid : History) (calls : List LogCall) (replies : List LogReply) (call : LogCall) (reply : LogReply) → CallsGo g most at h calls replies end k
    → AnswersBy g most call reply end next → AnswersLog k call reply mid → IsLogOf next.session.tree mid.now → CallsGo g most at h (calls ++ call ∷ []) (replies ++ reply ∷ []) next mid
calls_more g most at end next h k mid [] [] call reply go by answers is = (
  next,
  mid,
  subst (λ (s : Situation). AnswersBy g most call reply s next) go.0 by,
  subst (λ (j : History). AnswersLog j call reply mid) go.1 answers,
  is,
  (refl, refl),
)
calls_more g most at end next h k mid [] (r ∷ replies) call reply go by answers is = absurd go
calls_more g most at end next h k mid (c ∷ calls) [] call reply go by answers is = absurd go
calls_more g most at end next h k mid (c ∷ calls) (r ∷ replies) call reply go by answers is = (go.0, go.1, go.2, go.3, go.4, calls_more g most go.0 end next go.1 k mid calls replies call reply go.5 by answers is)
