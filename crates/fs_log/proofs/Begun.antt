-- The making of `/log`: nothing is logged then, as nothing was before, and the directory is there.
use Rattle.std.proofs.Common.{◌≡◌, ◌≢◌, ◌⊎◌, inl, inr, ⊎_elim, ℕ, Bool, true, false, cond, List, [], ◌∷◌, Option, Some, None, refl, sym, ◌∙◌, ap, subst}
use Rattle.std.specs.Prelude.{is_none}
use Rattle.std.proofs.lemmas.Bool.{false≢true, true≢false}
use Rattle.std.specs.Ordering.{is_eq}
use Rattle.std.specs.Cmp.{IsTotalOrder, tied_itself, nat_cmp_total}
use Rattle.std.specs.Cmp.Lexicographic.{lists_total}
use Rattle.std.specs.FinMap.{get, insert, get-insert}
use Rattle.lang_tree.specs.declared.command.Cmd.{Cmd}
use Rattle.lang_tree.specs.declared.command.Cmd.TheVariants.{Bad, Durable, Mkdir}
use Rattle.lang_tree.specs.declared.command.Refusal.{Refusal}
use Rattle.lang_tree.specs.declared.command.Refusal.TheVariants.{Exists, NameTooLong, NoNode}
use Rattle.lang_tree.specs.declared.command.Reply.{Reply}
use Rattle.lang_tree.specs.declared.command.Reply.TheVariants.{Ok as Done, Refused}
use Rattle.lang_tree.specs.Conditions.{first_reason, least_unused, refusal, when}
use Rattle.lang_tree.specs.Paths.{is_too_long}
use Rattle.lang_tree.specs.Run.{Answers, is_of_disk}
use Rattle.lang_tree.specs.Step.{Session, answered, step, with_node}
use Rattle.lang_tree.specs.Tree.{Dir, IsSound, Names, Tree, path_cmp}
use Rattle.lang_tree.specs.Walk.{is_there, parent_refusal}
use Rattle.lang_log.specs.Commands.{IsAsked, LacksNode, Leaves}
use Rattle.lang_log.specs.Log.{IsLogOf, IsMadeOf, Log, nothing_logged}
use Rattle.lang_log.specs.Names.{log_path}
use Rattle.lang_log.specs.Segments.{HasSegments}
use Rattle.engine_blocks.specs.State.{State}
use Rattle.fs_session.specs.Sessions.{IsSession}
use Rattle.fs_log.specs.Asked.{Asked, AskedOf}
use Rattle.fs_log.specs.Keeping.{HoldsLog, TakesLog, as_before}
use Rattle.fs_log.specs.Opening.{KeepsTree, MakesNoPoint}
use Rattle.fs_log.proofs.Holding.{held}
use Rattle.fs_log.proofs.Syncing.{same_history}

abbrev is_done : Reply → Bool
is_done Done = true
is_done _ = false

refused_not : (why : Refusal) → Refused why ≢ Done
refused_not why e = false≢true (ap is_done e)

-- What the tree makes of it.

path_total : IsTotalOrder path_cmp
path_total = lists_total (lists_total nat_cmp_total)

here : (names : Names) (path : List (List ℕ)) (n : ℕ) → get (insert names path n) path ≡ Some n
here names path n = get-insert path_total names path n path ∙ ap (λ b. cond b (Some n) (get names path)) (ap is_eq (tied_itself path_total path))

some_unused : (walk there : Option Refusal) (unused : Option ℕ) (rest : List (Option Refusal)) → first_reason (walk ∷ there ∷ when (is_none unused) NoNode ∷ rest) ≡ None
    → (n : ℕ) × (unused ≡ Some n)
some_unused (Some why) there unused rest e = absurd cc
some_unused None (Some why) unused rest e = absurd cc
some_unused None None None rest e = absurd cc
some_unused None None (Some n) rest e = (n, refl)

with_path : (t : Tree) (path : List (List ℕ)) (unused : Option ℕ) (n : ℕ) → unused ≡ Some n → get (with_node t path Dir unused).names path ≡ Some n
with_path t path unused n is = ap (λ (o : Option ℕ). get (with_node t path Dir o).names path) is ∙ here t.names path n

-- where it is done, the path leads somewhere
pub made_there : (f next : Session) (path : List (List ℕ)) → step f (Mkdir path) ≡ (next, Done) → (n : ℕ) × (get next.tree.names path ≡ Some n)
made_there f next path is = by (refusal f.limit f.tree (Mkdir path)) refl
  where
    by : (o : Option Refusal) → refusal f.limit f.tree (Mkdir path) ≡ o → (n : ℕ) × (get next.tree.names path ≡ Some n)
    by (Some why) e = absurd (refused_not why (sym (ap (λ o. (answered f (Mkdir path) o).1) e) ∙ ap (λ x. x.1) is))
    by None e =
        let u = some_unused (parent_refusal f.tree path) (when (is_there f.tree path) Exists) (least_unused f.limit.nodes f.tree) (when (is_too_long f.limit.layout path) NameTooLong ∷ []) e in
        let tree : next.tree ≡ with_node f.tree path Dir (least_unused f.limit.nodes f.tree) = sym (ap (λ x. x.0.tree) is) ∙ ap (λ o. (answered f (Mkdir path) o).0.tree) e in
        (u.0, ap (λ (t : Tree). get t.names path) tree ∙ with_path f.tree path (least_unused f.limit.nodes f.tree) u.0 u.1)

-- where it isn't, all is as it was
not_done_same : (f next : Session) (path : List (List ℕ)) (reply : Reply) → step f (Mkdir path) ≡ (next, reply) → reply ≢ Done → next ≡ f
not_done_same f next path reply is not = by (refusal f.limit f.tree (Mkdir path)) refl
  where
    by : (o : Option Refusal) → refusal f.limit f.tree (Mkdir path) ≡ o → next ≡ f
    by (Some why) e = sym (ap (λ x. x.0) is) ∙ ap (λ o. (answered f (Mkdir path) o).0) e
    by None e = absurd (not (sym (ap (λ x. x.1) is) ∙ ap (λ o. (answered f (Mkdir path) o).1) e))

refused_so : (f next : Session) (path : List (List ℕ)) (reply : Reply) → step f (Mkdir path) ≡ (next, reply) → reply ≢ Done → (why : Refusal) × (reply ≡ Refused why)
refused_so f next path reply is not = by (refusal f.limit f.tree (Mkdir path)) refl
  where
    by : (o : Option Refusal) → refusal f.limit f.tree (Mkdir path) ≡ o → (why : Refusal) × (reply ≡ Refused why)
    by (Some why) e = (why, sym (ap (λ x. x.1) is) ∙ ap (λ o. (answered f (Mkdir path) o).1) e)
    by None e = absurd (not (sym (ap (λ x. x.1) is) ∙ ap (λ o. (answered f (Mkdir path) o).1) e))

abbrev is_durable : Cmd → Bool
is_durable Durable = true
is_durable _ = false

no_question : (path : List (List ℕ)) → Mkdir path ≢ Durable
no_question path e = false≢true (ap is_durable e)

abbrev is_none_at_all : Cmd → Bool
is_none_at_all Bad = true
is_none_at_all _ = false

pub mkdir_not_bad : (path : List (List ℕ)) → Mkdir path ≢ Bad
mkdir_not_bad path e = false≢true (ap is_none_at_all e)

pub answered_same : (f next : Session) (path : List (List ℕ)) (reply : Reply) → Answers is_of_disk f (Mkdir path) reply next → reply ≢ Done → next ≡ f
answered_same f next path reply (inl is) not = not_done_same f next path reply is not
answered_same f next path reply (inr (inl refused)) not = refused.3
answered_same f next path reply (inr (inr known)) not = known.1.same

pub answered_refused : (f next : Session) (path : List (List ℕ)) (reply : Reply) → Answers is_of_disk f (Mkdir path) reply next → reply ≢ Done → (why : Refusal) × (reply ≡ Refused why)
answered_refused f next path reply (inl is) not = refused_so f next path reply is not
answered_refused f next path reply (inr (inl refused)) not = (refused.0, refused.2)
answered_refused f next path reply (inr (inr known)) not = absurd (no_question path known.1.asked)

answered_done : (f next : Session) (path : List (List ℕ)) (reply : Reply) → Answers is_of_disk f (Mkdir path) reply next → reply ≡ Done → step f (Mkdir path) ≡ (next, reply)
answered_done f next path reply (inl is) done = is
answered_done f next path reply (inr (inl refused)) done = absurd (refused_not refused.0 (sym refused.2 ∙ done))
answered_done f next path reply (inr (inr known)) done = absurd (no_question path known.1.asked)

-- What it makes of the blocks.
module _ {S : Type 0} (tells : Bool) (state : S → State) (path : List (List ℕ)) (reply : Reply) (old new : S) (asked : AskedOf tells state (Mkdir path) reply old new) where
  pub keeps_if_refused : reply ≢ Done → MakesNoPoint (state old) (state new) → KeepsTree (state old) (state new)
  keeps_if_refused not time = record {
    session = λ f session. let a = asked f session in subst (IsSession (state new)) (answered_same f a.next path reply a.answers not) a.session;
    time = time;
  }

  module _ (is_log : path ≡ log_path) (done : reply ≡ Done) (f : Session) (session : IsSession (state old) f) (sound : IsSound f.limit.nodes f.tree) (free : get f.tree.names log_path ≡ None)
      (before : (limit : ℕ) (t : Tree) → IsSound limit t → get t.names log_path ≡ None → HasSegments t [])
      (makes : (old new : Session) (reply : Reply) → get old.tree.names log_path ≡ None → IsAsked [] old (Mkdir log_path) new reply → LacksNode old new reply ⊎ Leaves [] new reply)
      (made : IsMadeOf [] nothing_logged) where
    a : Asked tells state (Mkdir path) reply f old new
    a = asked f session

    steps : step f (Mkdir path) ≡ (a.next, reply)
    steps = answered_done f a.next path reply a.answers done

    leaves : Leaves [] a.next reply
    leaves = ⊎_elim (λ lacks. absurd (refused_not NoNode (sym lacks.refused ∙ done))) (λ is. is)
        (makes f a.next reply free (record { sound = sound; had = before f.limit.nodes f.tree sound free; answered = subst (λ (p : List (List ℕ)). step f (Mkdir p) ≡ (a.next, reply)) is_log steps }))

    there : (n : ℕ) × (get a.next.tree.names log_path ≡ Some n)
    there = subst (λ (p : List (List ℕ)). (n : ℕ) × (get a.next.tree.names p ≡ Some n)) is_log
        (made_there f a.next path (subst (λ (r : Reply). step f (Mkdir path) ≡ (a.next, r)) done steps))

    pub holds_nothing : HoldsLog [] nothing_logged (state new)
    holds_nothing = held tells state (Mkdir path) reply f old new a [] nothing_logged leaves.has made there.0 there.1

    pub takes_nothing : ((t : Tree) (l k : Log) → IsLogOf t l → IsLogOf t k → l ≡ k) → TakesLog as_before (state old) (state new)
    takes_nothing one h keeps =
        let now : nothing_logged ≡ h.now = one f.tree nothing_logged h.now (record { segments = []; has = before f.limit.nodes f.tree sound free; made = made }) (keeps.now f.tree session.tree) in
        a.goes h h keeps (same_history h) (record {
          log = subst (IsLogOf a.next.tree) now (record { segments = []; has = leaves.has; made = made });
          calm = λ calm none. absurd (true≢false (sym leaves.changed ∙ calm));
        })
