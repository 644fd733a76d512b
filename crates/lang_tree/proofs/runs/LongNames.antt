-- When a name is too long, and what a layout counts for otherwise: nothing.
use Rattle.std.proofs.Common.{◌≡◌, ℕ, ◌+◌, ◌-◌, ◌≤◌, nat_lt, nat_le, is_none, Bool, true, false, List, [], ◌∷◌, ◌++◌, length, slice_get, if◌then◌else◌, Option, Some, None, refl, ap, subst, ◌∙◌, ◌⊎◌, inl, inr, arith, length-append, le-ltb}
use Rattle.std.specs.List.{All}
use Rattle.std.proofs.lemmas.Bool.{false≢true}
use Rattle.std.proofs.Math.Seq.{get_or-append_seam}
use Rattle.std.proofs.lemmas.Option.{slice_get-get_or}
use Rattle.base_types.specs.declared.layout.Layout.{Layout}
use Rattle.base_types.specs.declared.layout.Layout.TheVariants.{Two}
use Rattle.base_types.specs.Layouts.{longest_name}
use Rattle.lang_tree.specs.declared.command.Cmd.{Cmd}
use Rattle.lang_tree.specs.declared.command.Cmd.TheVariants.{Mkdir, Create, Link, Rename}
use Rattle.lang_tree.specs.declared.command.Refusal.{Refusal}
use Rattle.lang_tree.specs.declared.command.Refusal.TheVariants.{Exists, IsDir, TooManyLinks, NoNode, NameTooLong}
use Rattle.lang_tree.specs.Tree.{Tree, Bounds}
use Rattle.lang_tree.specs.Paths.{last_name, is_long, is_too_long}
use Rattle.lang_tree.specs.Walk.{walk_refusal, parent_refusal, thing_at, is_dir, is_there, is_same_node, links}
use Rattle.lang_tree.specs.Conditions.{when, first_reason, least_unused, onto_refusal, refusal, brings_long_name}
use Rattle.lang_tree.proofs.basics.Strips.{from_end}
use Rattle.lang_tree.proofs.walking.Found.{no_reason}

-- The last name.

last_is : (up : List (List ℕ)) (name : List ℕ) → last_name (up ++ name ∷ []) ≡ Some name
last_is up name =
    let size : length (up ++ name ∷ []) ≡ length up + 1 = length-append up (name ∷ []) in
    let place : length (up ++ name ∷ []) - 1 ≡ length up = omega (arith, size) in
    let at = slice_get-get_or (up ++ name ∷ []) (length up) [] (omega (arith, size)) in
    ap (slice_get (up ++ name ∷ [])) place ∙ at ∙ ap Some (get_or-append_seam up name [] [])

pub last_long : (l : Layout) (up : List (List ℕ)) (name : List ℕ) → is_too_long l (up ++ name ∷ []) ≡ nat_lt (longest_name l) (length name)
last_long l up name = ap (is_long l) (last_is up name)

at_end : (P : List ℕ → Type 0) (up : List (List ℕ)) (name : List ℕ) → All P (up ++ name ∷ []) → P name
at_end P up name all = subst P (get_or-append_seam up name [] []) (all (length up) [] (omega (arith, length-append up (name ∷ []))))

-- layout 2 takes each name of up to 255 bytes
pub never_long : (path : List (List ℕ)) → All (λ name. length name ≤ 255) path → is_too_long Two path ≡ false
never_long path all = by (from_end path)
  where
    by : (path ≡ []) ⊎ ((up : List (List ℕ)) × (name : List ℕ) × (path ≡ up ++ name ∷ [])) → is_too_long Two path ≡ false
    by (inl none) = ap (is_too_long Two) none
    by (inr end) =
        let short = at_end (λ name. length name ≤ 255) end.0 end.1 (subst (All (λ name. length name ≤ 255)) end.2 all) in
        ap (is_too_long Two) end.2 ∙ last_long Two end.0 end.1 ∙ le-ltb 255 (length end.1) short

-- The refusals.

three_before : (a b c : Option Refusal) (long : Bool) → long ≡ true → first_reason (a ∷ b ∷ c ∷ when long NameTooLong ∷ []) ≡ None → ⊥
three_before a b c long h1 h2 = grind arith

five_before : (a b c d e : Option Refusal) (long : Bool) → long ≡ true → first_reason (a ∷ b ∷ c ∷ d ∷ e ∷ when long NameTooLong ∷ []) ≡ None → ⊥
five_before a b c d e long is none =
    let one = no_reason a (b ∷ c ∷ d ∷ e ∷ when long NameTooLong ∷ []) none in
    let two = no_reason b (c ∷ d ∷ e ∷ when long NameTooLong ∷ []) one.1 in
    three_before c d e long is two.1

-- the reasons of a new node, a link and a move, where it is told whether the name is too long
abbrev make_by : Bounds → Tree → List (List ℕ) → Bool → Option Refusal
make_by limit t path long =
    first_reason (parent_refusal t path ∷ when (is_there t path) Exists ∷ when (is_none (least_unused limit.nodes t)) NoNode ∷ when long NameTooLong ∷ [])

abbrev link_by : Tree → List (List ℕ) → List (List ℕ) → Bool → Option Refusal
link_by t path other long =
    first_reason (walk_refusal t path ∷ parent_refusal t other ∷ when (is_there t other) Exists ∷ when (is_dir (thing_at t path)) IsDir
    ∷ when (nat_le 65535 (links t path)) TooManyLinks ∷ when long NameTooLong ∷ [])

abbrev rename_by : Tree → List (List ℕ) → List (List ℕ) → Bool → Option Refusal
rename_by t from to long =
    first_reason (walk_refusal t from ∷ parent_refusal t to ∷ (if is_same_node t from to then None else onto_refusal t from to) ∷ when long NameTooLong ∷ [])

make_long : (limit : Bounds) (t : Tree) (path : List (List ℕ)) (long : Bool) → long ≡ true → make_by limit t path long ≡ None → ⊥
make_long limit t path long is none = three_before (parent_refusal t path) (when (is_there t path) Exists) (when (is_none (least_unused limit.nodes t)) NoNode) long is none

pub refused_long : (limit : Bounds) (t : Tree) (cmd : Cmd) → brings_long_name limit.layout cmd ≡ true → refusal limit t cmd ≡ None → ⊥
refused_long limit t (Mkdir path) long none = make_long limit t path (is_too_long limit.layout path) long none
refused_long limit t (Create path) long none = make_long limit t path (is_too_long limit.layout path) long none
refused_long limit t (Link path other) long none =
    five_before (walk_refusal t path) (parent_refusal t other) (when (is_there t other) Exists) (when (is_dir (thing_at t path)) IsDir)
    (when (nat_le 65535 (links t path)) TooManyLinks) (is_too_long limit.layout other) long none
refused_long limit t (Rename from to) long none =
    three_before (walk_refusal t from) (parent_refusal t to) (if is_same_node t from to then None else onto_refusal t from to) (is_too_long limit.layout to) long none
refused_long limit t cmd long none = absurd (false≢true long)

pub layouts_alike : (nodes : ℕ) (l m : Layout) (t : Tree) (cmd : Cmd) → brings_long_name l cmd ≡ brings_long_name m cmd
    → refusal (record { nodes = nodes; layout = l }) t cmd ≡ refusal (record { nodes = nodes; layout = m }) t cmd
layouts_alike nodes l m t (Mkdir path) e = ap (make_by (record { nodes = nodes; layout = l }) t path) e
layouts_alike nodes l m t (Create path) e = ap (make_by (record { nodes = nodes; layout = l }) t path) e
layouts_alike nodes l m t (Link path other) e = ap (link_by t path other) e
layouts_alike nodes l m t (Rename from to) e = ap (rename_by t from to) e
layouts_alike nodes l m t cmd e = refl
