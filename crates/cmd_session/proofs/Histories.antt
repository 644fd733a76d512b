-- One command more behind others: its points, the floor and the top, and the session after it.
use Rattle.std.proofs.Common.{◌≡◌, ◌⊎◌, inl, inr, ⊎_elim, ℕ, zero, suc, ◌+◌, ◌≤◌, nat_le, Bool, ◌&&◌, if◌then◌else◌, List, [], ◌∷◌, ◌++◌, length, take, slice_get, Some, unwrap_or, refl, ◌∙◌, ap, subst, arith}
use Rattle.std.proofs.Math.Nat.{max-le}
use Rattle.std.proofs.lemmas.List.{append-nil, append_assoc}
use Rattle.std.proofs.lemmas.Bool.{cases_lt, le-leb, lt-leb, cond-true, cond-false}
use Rattle.cmd_trace.specs.Contents.{Each}
use Rattle.lang_tree.specs.declared.command.Cmd.{Cmd}
use Rattle.lang_tree.specs.declared.command.Reply.{Reply}
use Rattle.lang_tree.specs.declared.command.Refusal.{Refusal}
use Rattle.lang_tree.specs.Points.{Point, after_reply, is_sync, may_have_written, made_by, points_after, begun_by, floor, promised_by}
use Rattle.lang_tree.specs.Run.{Answers, Run}
use Rattle.lang_tree.specs.Step.{Session}
use Rattle.cmd_trace.specs.Trace.{Ascend}
use Rattle.cmd_trace.specs.Shared.{from_le}
use Rattle.cmd_session.specs.Histories.{session_after, last_mark}

-- how many there are of one thing as there are of another
pub some_none : (n : ℕ) → suc n ≡ 0 → ⊥
some_none n e = omega (arith, e)

pub none_some : (n : ℕ) → 0 ≡ suc n → ⊥
none_some n e = omega (arith, e)

pub one_less : (m n : ℕ) → suc m ≡ suc n → m ≡ n
one_less m n e = omega (arith, e)

-- the points of one command more
pub points_more : (s : Session) (begun : ℕ) (cmds : List Cmd) (replies : List Reply) (marks : List ℕ) (cmd : Cmd) (reply : Reply) (mark : ℕ) → length cmds ≡ length replies → length marks ≡ length replies
    → points_after s begun (cmds ++ cmd ∷ []) (replies ++ reply ∷ []) (marks ++ mark ∷ []) ≡ points_after s begun cmds replies marks ++ made_by (session_after s cmds replies) cmd reply (last_mark begun marks)
points_more s begun [] [] [] cmd reply mark one two = append-nil (made_by s cmd reply begun)
points_more s begun [] [] (m ∷ marks) cmd reply mark one two = absurd (some_none (length marks) two)
points_more s begun [] (r ∷ replies) marks cmd reply mark one two = absurd (none_some (length replies) one)
points_more s begun (c ∷ cmds) [] marks cmd reply mark one two = absurd (some_none (length cmds) one)
points_more s begun (c ∷ cmds) (r ∷ replies) [] cmd reply mark one two = absurd (none_some (length replies) two)
points_more s begun (c ∷ cmds) (r ∷ replies) (m ∷ marks) cmd reply mark one two = grind (arith, points_more (after_reply s c r) m cmds replies marks cmd reply mark (one_less (length cmds) (length replies) one) (one_less (length marks) (length replies) two), one_less, append_assoc)

pub session_more : (s : Session) (cmds : List Cmd) (replies : List Reply) (cmd : Cmd) (reply : Reply) → length cmds ≡ length replies
    → session_after s (cmds ++ cmd ∷ []) (replies ++ reply ∷ []) ≡ after_reply (session_after s cmds replies) cmd reply
session_more s [] [] cmd reply e = refl
session_more s [] (r ∷ replies) cmd reply e = absurd (none_some (length replies) e)
session_more s (c ∷ cmds) [] cmd reply e = absurd (some_none (length cmds) e)
session_more s (c ∷ cmds) (r ∷ replies) cmd reply e = session_more (after_reply s c r) cmds replies cmd reply (one_less (length cmds) (length replies) e)

pub run_more : (outside : Refusal → Bool) (s t u : Session) (cmds : List Cmd) (replies : List Reply) (cmd : Cmd) (reply : Reply) → Run outside s cmds replies t → Answers outside t cmd reply u → Run outside s (cmds ++ cmd ∷ []) (replies ++ reply ∷ []) u
run_more outside s t u [] [] cmd reply run answers = (u, subst (λ (x : Session). Answers outside x cmd reply u) run answers, refl)
run_more outside s t u [] (r ∷ replies) cmd reply run answers = absurd run
run_more outside s t u (c ∷ cmds) [] cmd reply run answers = absurd run
run_more outside s t u (c ∷ cmds) (r ∷ replies) cmd reply run answers = (run.0, run.1, run_more outside run.0 t u cmds replies cmd reply run.2 answers)

-- what a reply promises by a moment is no more than what is known once its mark has come
promised_upto : (k m n : ℕ) (reply : Reply) → (m ≤ k → promised_by reply ≤ n) → (if nat_le m k then promised_by reply else 0) ≤ n
promised_upto k m n reply known = grind (arith, cases_lt k m, cond-false, lt-leb, cond-true, le-leb, cases_lt)

-- the floor of one command more
pub floor_more : (k n : ℕ) (replies : List Reply) (marks : List ℕ) (reply : Reply) (mark : ℕ) → length marks ≡ length replies → floor k replies marks ≤ n → (mark ≤ k → promised_by reply ≤ n) → floor k (replies ++ reply ∷ []) (marks ++ mark ∷ []) ≤ n
floor_more k n [] [] reply mark e low known = max-le (promised_upto k mark n reply known) (omega arith)
floor_more k n [] (m ∷ marks) reply mark e low known = absurd (some_none (length marks) e)
floor_more k n (r ∷ replies) [] reply mark e low known = absurd (none_some (length replies) e)
floor_more k n (r ∷ replies) (m ∷ marks) reply mark e low known = grind (arith, floor_more k n replies marks reply mark (one_less (length marks) (length replies) e), length marks, length replies, max-le, one_less)

-- The last mark is the number of events, and so it is with one more.
pub last_is : (from : ℕ) (marks : List ℕ) (events : ℕ) → Ascend from marks events → last_mark from marks ≡ events
last_is from [] events up = up
last_is from (m ∷ marks) events up = last_is m marks events up.1

pub ascend_more : (from : ℕ) (marks : List ℕ) (events mark : ℕ) → Ascend from marks events → events ≤ mark → Ascend from (marks ++ mark ∷ []) mark
ascend_more from [] events mark up le = (omega (arith, up, le), refl)
ascend_more from (m ∷ marks) events mark up le = (up.0, ascend_more m marks events mark up.1 le)

-- How many points began by a moment.

-- a point, where there is one, and nothing else
all_if : (P : Point → Type 0) (c : Bool) (p : Point) → P p → Each P (if c then p ∷ [] else [])
all_if P c p h1 = grind arith

pub all_append : (P : Point → Type 0) (xs ys : List Point) → Each P xs → Each P ys → Each P (xs ++ ys)
all_append P [] ys left right = right
all_append P (x ∷ xs) ys left right = (left.0, all_append P xs ys left.1 right)

pub made_begun : (s : Session) (cmd : Cmd) (reply : Reply) (begun events : ℕ) → begun ≤ events → Each (λ p. p.begun ≤ events) (made_by s cmd reply begun)
made_begun s cmd reply begun events le = all_if (λ p. p.begun ≤ events) (is_sync cmd && (s.changed && may_have_written reply)) (record { tree = s.tree; begun = begun }) le

-- each point began no later than the last event came
pub points_begun : (s : Session) (begun : ℕ) (cmds : List Cmd) (replies : List Reply) (marks : List ℕ) (events : ℕ) → Ascend begun marks events → Each (λ p. p.begun ≤ events) (points_after s begun cmds replies marks)
points_begun s begun [] replies marks events up = tt
points_begun s begun (c ∷ cmds) [] marks events up = tt
points_begun s begun (c ∷ cmds) (r ∷ replies) [] events up = tt
points_begun s begun (c ∷ cmds) (r ∷ replies) (m ∷ marks) events up =
    all_append (λ p. p.begun ≤ events) (made_by s c r begun) (points_after (after_reply s c r) m cmds replies marks)
    (made_begun s c r begun events (omega (arith, up.0, from_le m marks events up.1))) (points_begun (after_reply s c r) m cmds replies marks events up.1)

-- so by then they all have
pub begun_all : (k : ℕ) (xs : List Point) → Each (λ p. p.begun ≤ k) xs → begun_by k xs ≡ length xs
begun_all k [] all = refl
begun_all k (x ∷ xs) all = omega (arith, cond-true {A = ℕ} (nat_le x.begun k) 1 0 (le-leb x.begun k all.0), begun_all k xs all.1)

-- What stands in a list stands in a longer one, and behind it comes the next.
pub none_is : {A : Type 0} (i : ℕ) (x : A) → slice_get [] i ≡ Some x → ⊥
none_is i x h1 = grind arith

pub get_before : {A : Type 0} (xs ys : List A) (i : ℕ) (x : A) → slice_get xs i ≡ Some x → slice_get (xs ++ ys) i ≡ Some x
get_before [] ys i x is = absurd (none_is i x is)
get_before (y ∷ xs) ys zero x is = is
get_before (y ∷ xs) ys (suc i) x is = get_before xs ys i x is

some_is : {A : Type 0} (x y : A) → Some x ≡ Some y → x ≡ y
some_is x y e = ap (λ o. unwrap_or o x) e

-- the last of a list, or one before it
pub get_split : {A : Type 0} (xs : List A) (x y : A) (i : ℕ) → slice_get (xs ++ x ∷ []) i ≡ Some y → (slice_get xs i ≡ Some y) ⊎ (x ≡ y)
get_split [] x y zero is = inr (some_is x y is)
get_split [] x y (suc i) is = inl is
get_split (z ∷ xs) x y zero is = inl is
get_split (z ∷ xs) x y (suc i) is = get_split xs x y i is

-- The mark of the first of these commands is none past the last event, and the last mark is that of the last command.
pub front_mark : (from i : ℕ) (marks : List ℕ) (events : ℕ) → Ascend from marks events → last_mark from (take i marks) ≤ events
front_mark from zero marks events up = from_le from marks events up
front_mark from (suc i) [] events up = omega (arith, up)
front_mark from (suc i) (m ∷ marks) events up = front_mark m i marks events up.1

pub mark_behind : (from : ℕ) (marks : List ℕ) (mark : ℕ) → last_mark from (marks ++ mark ∷ []) ≡ mark
mark_behind from [] mark = refl
mark_behind from (m ∷ marks) mark = mark_behind m marks mark
