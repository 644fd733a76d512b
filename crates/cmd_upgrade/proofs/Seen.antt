-- The tree itself refuses no look that an upgrade makes: at the names of a directory that is there, at a path that is there, and at the bytes of a file that is there.
use Rattle.std.proofs.Common.{◌≡◌, ℕ, Bool, true, false, true≢false, List, [], ◌∷◌, Option, Some, None, option_and_then, refl, sym, ap, ◌∙◌, subst}
use Rattle.std.proofs.lemmas.Option.{none-some}
use Rattle.std.specs.FinMap.{get}
use Rattle.lang_tree.specs.declared.command.Cmd.{Cmd}
use Rattle.lang_tree.specs.declared.command.Cmd.TheVariants.{Read, Stat, List as ListNames}
use Rattle.lang_tree.specs.declared.command.Refusal.{Refusal}
use Rattle.lang_tree.specs.declared.command.Refusal.TheVariants.{IsDir, NotDir}
use Rattle.lang_tree.specs.declared.command.Reply.{Reply}
use Rattle.lang_tree.specs.declared.command.Reply.TheVariants.{Bytes, Names as NamesReply, Refused, Stat as StatReply}
use Rattle.lang_tree.specs.Conditions.{first_reason, refusal, when}
use Rattle.lang_tree.specs.Step.{answered, session_on, stat, stat_by, stat_of}
use Rattle.lang_tree.specs.Tree.{Bounds, Dir, File, IsSound, Thing, Tree}
use Rattle.lang_tree.specs.Walk.{is_dir, is_file, thing_at, walk_refusal}
use Rattle.cmd_upgrade.specs.Looked.{IsSeen}

-- what the law says of walks
abbrev pub WalksEnd : Type 0
WalksEnd = (limit : ℕ) (t : Tree) (p : List (List ℕ)) (n : ℕ) → IsSound limit t → get t.names p ≡ Some n → walk_refusal t p ≡ None

-- a directory is no file
no_file : (o : Option Thing) → is_dir o ≡ true → is_file o ≡ false
no_file None e = refl
no_file (Some Dir) e = refl
no_file (Some (File bytes)) e = absurd (true≢false (sym e))

-- what is a directory has a number
dir_at : (t : Tree) (p : List (List ℕ)) → is_dir (thing_at t p) ≡ true → (n : ℕ) × (get t.names p ≡ Some n)
dir_at t p dir = by (get t.names p) refl
  where
    by : (o : Option ℕ) → get t.names p ≡ o → (n : ℕ) × (get t.names p ≡ Some n)
    by None e = absurd (true≢false (sym dir ∙ ap (λ (o : Option ℕ). is_dir (option_and_then (λ n. get t.nodes n) o)) e))
    by (Some n) e = (n, e)

module _ (walks : WalksEnd) (most : ℕ) (t : Tree) (sound : IsSound most t) (p : List (List ℕ)) (n : ℕ) (at : get t.names p ≡ Some n) where
  seen_names : is_dir (thing_at t p) ≡ true → IsSeen t (ListNames p)
  seen_names dir limit why e =
      let other = sym (ap (λ (o : Option Refusal). (answered (session_on limit t) (ListNames p) o).1) none) ∙ e in
      cc
    where
      none : refusal limit t (ListNames p) ≡ None
      none = ap (λ (a : Option Refusal). first_reason (a ∷ when (is_file (thing_at t p)) NotDir ∷ [])) (walks most t p n sound at) ∙ ap (λ (b : Bool). first_reason (None ∷ when b NotDir ∷ [])) (no_file (thing_at t p) dir)

  pub seen_bytes : (offset count : ℕ) → is_dir (thing_at t p) ≡ false → IsSeen t (Read p offset count)
  seen_bytes offset count file limit why e =
      let other = sym (ap (λ (o : Option Refusal). (answered (session_on limit t) (Read p offset count) o).1) none) ∙ e in
      cc
    where
      none : refusal limit t (Read p offset count) ≡ None
      none = ap (λ (a : Option Refusal). first_reason (a ∷ when (is_dir (thing_at t p)) IsDir ∷ [])) (walks most t p n sound at) ∙ ap (λ (b : Bool). first_reason (None ∷ when b IsDir ∷ [])) file

  -- what is there has something to show
  shown : (x : Thing) → get t.nodes n ≡ Some x → (why : Refusal) → stat t p ≡ Refused why → ⊥
  shown x is why e = by x (sym (ap (stat_by t p) at ∙ ap (stat_of t p n) is) ∙ e)
    where
      by : (x : Thing) → stat_of t p n (Some x) ≡ Refused why → ⊥
      by Dir e = cc
      by (File bytes) e = cc

  pub seen_stat : IsSeen t (Stat p)
  seen_stat limit why e =
      let x = sound.named p n at in
      shown x.0 x.1 why (sym (ap (λ (o : Option Refusal). (answered (session_on limit t) (Stat p) o).1) (walks most t p n sound at)) ∙ e)

-- a directory that is there
pub names_seen : (walks : WalksEnd) (most : ℕ) (t : Tree) → IsSound most t → (p : List (List ℕ)) → is_dir (thing_at t p) ≡ true → IsSeen t (ListNames p)
names_seen walks most t sound p dir = let n = dir_at t p dir in seen_names walks most t sound p n.0 n.1 dir
