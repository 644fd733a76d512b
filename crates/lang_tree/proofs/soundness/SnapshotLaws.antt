-- What a snapshot keeps stays as it was made until it is taken away, and looks at it are answered as the tree of that moment was.
use Rattle.std.proofs.Common.{◌≡◌, ◌≢◌, ℕ, suc, arith, Bool, false, List, [], ◌∷◌, ◌++◌, is_none, is_some, Option, Some, None, refl, sym, ap, ◌∙◌, inl, inr}
use Rattle.std.proofs.lemmas.Bool.{true≢false}
use Rattle.std.specs.List.{All}
use Rattle.std.specs.FinMap.{get}
use Rattle.lang_tree.specs.declared.command.Cmd.{Cmd}
use Rattle.lang_tree.specs.declared.command.Cmd.TheVariants.{Snap, Unsnap, At}
use Rattle.lang_tree.specs.declared.command.Look.{Look}
use Rattle.lang_tree.specs.declared.command.Look.TheVariants as look
use Rattle.lang_tree.specs.declared.command.Reply.{Reply}
use Rattle.lang_tree.specs.declared.command.Reply.TheVariants.{Refused}
use Rattle.lang_tree.specs.declared.command.Refusal.{Refusal}
use Rattle.lang_tree.specs.declared.command.Refusal.TheVariants.{Exists, NoNode, IsDir, NotDir}
use Rattle.lang_tree.specs.Tree.{Tree, Bounds, Kept, kept_tree}
use Rattle.lang_tree.specs.Walk.{walk_from, enter, is_dir, is_file, thing_at, refusal_in}
use Rattle.lang_tree.specs.Conditions.{when, first_reason, least_unused, refusal, at_refusal, look_refusal}
use Rattle.lang_tree.specs.Step.{Session, session_on, step, answered, kept_of, snapped_by, look_command, seen, seen_in, stat_by}
use Rattle.lang_tree.specs.Run.{Answers, Run}
use Rattle.lang_tree.proofs.basics.Strips.{lacks}
use Rattle.lang_tree.proofs.basics.Finds.{put_here, gone_here, keeps, stays}
use Rattle.lang_tree.proofs.walking.Found.{no_reason, not_so}
use Rattle.lang_tree.proofs.soundness.Snapshots.{name_total, name_same, answered_keeps}

-- an accepted snapshot has a new name and a number
new_name : (limit : Bounds) (t : Tree) (name : List ℕ) → refusal limit t (Snap name) ≡ None → get t.snapshots name ≡ None
new_name limit t name e =
    lacks (get t.snapshots name) (not_so (is_some (get t.snapshots name)) Exists (no_reason (when (is_some (get t.snapshots name)) Exists) (when (is_none (least_unused limit.nodes t)) NoNode ∷ []) e).0)

new_number : (limit : Bounds) (t : Tree) (name : List ℕ) → refusal limit t (Snap name) ≡ None → is_none (least_unused limit.nodes t) ≡ false
new_number limit t name e =
    let one = no_reason (when (is_some (get t.snapshots name)) Exists) (when (is_none (least_unused limit.nodes t)) NoNode ∷ []) e in
    not_so (is_none (least_unused limit.nodes t)) NoNode (no_reason (when (is_none (least_unused limit.nodes t)) NoNode) [] one.1).0

-- it is made of the tree as it is
pub is_made : (s : Session) (name : List ℕ) → refusal s.limit s.tree (Snap name) ≡ None
    → (n : ℕ) × (least_unused s.limit.nodes s.tree ≡ Some n) × (get (step s (Snap name)).0.tree.snapshots name ≡ Some (kept_of n s.tree))
is_made s name e = by (least_unused s.limit.nodes s.tree) refl (new_number s.limit s.tree name e)
  where
    by : (o : Option ℕ) → least_unused s.limit.nodes s.tree ≡ o → is_none o ≡ false
        → (n : ℕ) × (least_unused s.limit.nodes s.tree ≡ Some n) × (get (step s (Snap name)).0.tree.snapshots name ≡ Some (kept_of n s.tree))
    by None is some = absurd (true≢false some)
    by (Some n) is some = (
      n,
      is,
      ap (λ r. get (answered s (Snap name) r).0.tree.snapshots name) e
          ∙ ap (λ o. get (snapped_by s.tree name o).snapshots name) is
          ∙ put_here name_total s.tree.snapshots name (kept_of n s.tree) name refl,
    )

-- and is gone where it is taken away
pub is_gone : (s : Session) (name : List ℕ) → refusal s.limit s.tree (Unsnap name) ≡ None → get (step s (Unsnap name)).0.tree.snapshots name ≡ None
is_gone s name e = ap (λ r. get (answered s (Unsnap name) r).0.tree.snapshots name) e ∙ gone_here name_total s.tree.snapshots name name refl

-- else it stays
module _ (s : Session) (name : List ℕ) (k : Kept) (there : get s.tree.snapshots name ≡ Some k) where
  snapped_stays : (new : List ℕ) → get s.tree.snapshots new ≡ None → (o : Option ℕ) → get (snapped_by s.tree new o).snapshots name ≡ Some k
  snapped_stays new free None = there
  snapped_stays new free (Some m) = keeps name_total name_same s.tree.snapshots new (kept_of m s.tree) name k free there

  answered_stays : (cmd : Cmd) (r : Option Refusal) → refusal s.limit s.tree cmd ≡ r → cmd ≢ Unsnap name → get (answered s cmd r).0.tree.snapshots name ≡ Some k
  answered_stays cmd (Some why) e other = there
  answered_stays (Snap new) None e other = snapped_stays new (new_name s.limit s.tree new e) (least_unused s.limit.nodes s.tree)
  answered_stays (Unsnap old) None e other = stays name_total name_same s.tree.snapshots old name (λ same. other (ap Unsnap (sym same))) ∙ there
  answered_stays cmd None e other = ap (λ m. get m name) (answered_keeps s cmd None refl).same ∙ there

  pub step_stays : (cmd : Cmd) → cmd ≢ Unsnap name → get (step s cmd).0.tree.snapshots name ≡ Some k
  step_stays cmd other = answered_stays cmd (refusal s.limit s.tree cmd) refl other

first_of : {A : Type 0} (P : A → Type 0) (x : A) (xs : List A) → All P (x ∷ xs) → P x
first_of P x xs each = each 0 x (omega arith)

rest_of : {A : Type 0} (P : A → Type 0) (x : A) (xs : List A) → All P (x ∷ xs) → All P xs
rest_of P x xs each = λ k d low. each (suc k) d (omega (arith, low))

-- over whole runs, too
pub run_stays : (outside : Refusal → Bool) (s end : Session) (cmds : List Cmd) (replies : List Reply) (name : List ℕ) (k : Kept) → All (λ cmd. cmd ≢ Unsnap name) cmds
    → Run outside s cmds replies end → get s.tree.snapshots name ≡ Some k → get end.tree.snapshots name ≡ Some k
run_stays outside s end [] [] name k never run there = ap (λ (x : Session). get x.tree.snapshots name) run ∙ there
run_stays outside s end [] (reply ∷ replies) name k never run there = absurd run
run_stays outside s end (cmd ∷ cmds) [] name k never run there = absurd run
run_stays outside s end (cmd ∷ cmds) (reply ∷ replies) name k never run there =
    run_stays outside run.0 end cmds replies name k (rest_of (λ c. c ≢ Unsnap name) cmd cmds never) run.2 (by run.1)
  where
    by : Answers outside s cmd reply run.0 → get run.0.tree.snapshots name ≡ Some k
    by (inl is) = ap (λ x. get x.0.tree.snapshots name) (sym is) ∙ step_stays s name k there cmd (first_of (λ c. c ≢ Unsnap name) cmd cmds never)
    by (inr (inl refused)) = ap (λ (x : Session). get x.tree.snapshots name) refused.3 ∙ there
    by (inr (inr known)) = ap (λ (x : Session). get x.tree.snapshots name) known.1.same ∙ there

-- Looks.

-- the answer to a look that is refused so, or not
abbrev answer_by : Tree → Look → Option Refusal → Reply
answer_by t l (Some why) = Refused why
answer_by t l None = seen t l

answered_by : (s : Session) (l : Look) (r : Option Refusal) → (answered s (look_command l) r).1 ≡ answer_by s.tree l r
answered_by s l (Some why) = refl
answered_by s (look.Read path offset count) None = refl
answered_by s (look.Stat path) None = refl
answered_by s (look.List path) None = refl

-- the reply to a look is the answer by its refusal
look_answer : (s : Session) (l : Look) → (step s (look_command l)).1 ≡ answer_by s.tree l (look_refusal s.tree l)
look_answer s (look.Read path offset count) = answered_by s (look.Read path offset count) (look_refusal s.tree (look.Read path offset count))
look_answer s (look.Stat path) = answered_by s (look.Stat path) (look_refusal s.tree (look.Stat path))
look_answer s (look.List path) = answered_by s (look.List path) (look_refusal s.tree (look.List path))

-- a look at a snapshot is one at the tree that it keeps
pub looks_so : (s : Session) (name : List ℕ) (k : Kept) (l : Look) → get s.tree.snapshots name ≡ Some k
    → (step s (At name l)).1 ≡ (step (session_on s.limit (kept_tree k)) (look_command l)).1
looks_so s name k l there =
    ap (λ o. (answered s (At name l) (at_refusal o l)).1) there
    ∙ by (look_refusal (kept_tree k) l)
    ∙ sym (look_answer (session_on s.limit (kept_tree k)) l)
  where
    by : (r : Option Refusal) → (answered s (At name l) r).1 ≡ answer_by (kept_tree k) l r
    by (Some why) = refl
    by None = ap (λ o. seen_in o l) there

-- and what is kept of a tree looks as the tree does
module _ (t : Tree) (n : ℕ) where
  abbrev kept : Tree
  kept = kept_tree (kept_of n t)

  walk_same : (here : List (List ℕ)) (m : ℕ) (rest : List (List ℕ)) → walk_from kept here m rest ≡ walk_from t here m rest
  walk_same here m [] = refl
  walk_same here m (name ∷ rest) = on (λ j. walk_same (here ++ name ∷ []) j rest)
    where
      on : ((j : ℕ) → walk_from kept (here ++ name ∷ []) j rest ≡ walk_from t (here ++ name ∷ []) j rest)
          → enter (is_dir (get t.nodes m)) (get t.names (here ++ name ∷ [])) (λ j. walk_from kept (here ++ name ∷ []) j rest)
          ≡ enter (is_dir (get t.nodes m)) (get t.names (here ++ name ∷ [])) (λ j. walk_from t (here ++ name ∷ []) j rest)
      on same = λ i. enter (is_dir (get t.nodes m)) (get t.names (here ++ name ∷ [])) (λ j. same j i)

  refused_same : (l : Look) → look_refusal kept l ≡ look_refusal t l
  refused_same (look.Read path offset count) = ap (λ w. first_reason (refusal_in w ∷ when (is_dir (thing_at t path)) IsDir ∷ [])) (walk_same [] 1 path)
  refused_same (look.Stat path) = ap refusal_in (walk_same [] 1 path)
  refused_same (look.List path) = ap (λ w. first_reason (refusal_in w ∷ when (is_file (thing_at t path)) NotDir ∷ [])) (walk_same [] 1 path)

  stat_same : (path : List (List ℕ)) (o : Option ℕ) → stat_by kept path o ≡ stat_by t path o
  stat_same path o = grind arith

  seen_same : (l : Look) → seen kept l ≡ seen t l
  seen_same (look.Read path offset count) = refl
  seen_same (look.Stat path) = stat_same path (get t.names path)
  seen_same (look.List path) = refl

  answer_same : (l : Look) (r : Option Refusal) → answer_by kept l r ≡ answer_by t l r
  answer_same l (Some why) = refl
  answer_same l None = seen_same l

pub answers_as_it_was : (s : Session) (n : ℕ) (l : Look) → (step (session_on s.limit (kept_tree (kept_of n s.tree))) (look_command l)).1 ≡ (step s (look_command l)).1
answers_as_it_was s n l =
    look_answer (session_on s.limit (kept_tree (kept_of n s.tree))) l
    ∙ ap (answer_by (kept_tree (kept_of n s.tree)) l) (refused_same s.tree n l)
    ∙ answer_same s.tree n l (look_refusal s.tree l)
    ∙ sym (look_answer s l)

-- So a look at a snapshot is answered as the tree of its moment answers it, whatever came since.
pub looks_back : (outside : Refusal → Bool) (s end : Session) (name : List ℕ) (cmds : List Cmd) (replies : List Reply) (l : Look) → refusal s.limit s.tree (Snap name) ≡ None
    → All (λ cmd. cmd ≢ Unsnap name) cmds → Run outside (step s (Snap name)).0 cmds replies end → (step end (At name l)).1 ≡ (step s (look_command l)).1
looks_back outside s end name cmds replies l accepted never run =
    let made = is_made s name accepted in
    let there = run_stays outside (step s (Snap name)).0 end cmds replies name (kept_of made.0 s.tree) never run made.2 in
    looks_so end name (kept_of made.0 s.tree) l there
    ∙ look_answer (session_on end.limit (kept_tree (kept_of made.0 s.tree))) l
    ∙ sym (look_answer (session_on s.limit (kept_tree (kept_of made.0 s.tree))) l)
    ∙ answers_as_it_was s made.0 l
