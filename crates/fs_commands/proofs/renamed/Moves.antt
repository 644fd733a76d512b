-- A rename that the tree accepts, from what was found along its paths.
use Rattle.std.proofs.Common.{◌≡◌, ◌≢◌, ℕ, ◌-◌, false, List, [], ◌∷◌, ◌++◌, length, get_or, slice_get, Option, None, Some, option_map, IfSome, Ok, refl, sym, ◌∙◌, arith}
use Rattle.std.proofs.lemmas.Bool.{eq-eqb, true≢false}
use Rattle.std.proofs.lemmas.Option.{none-some, slice_get-get_or}
use Rattle.base_types.specs.declared.layout.Layout.{Layout}
use Rattle.lang_tree.specs.Paths.{parent}
use Rattle.lang_tree.specs.Walk.{are_same}
use Rattle.crash_stands.specs.Files.{Files}
use Rattle.crash_stands.specs.Inodes.{inodes_of}
use Rattle.fs_inodes.specs.Refusals.{rename_reason}
use Rattle.fs_commands.specs.declared.paths.Entry.{Entry}
use Rattle.fs_commands.specs.declared.paths.Spot.TheVariants.{Inside}
use Rattle.fs_commands.specs.declared.removing.Named.{Named}
use Rattle.fs_commands.specs.Looks.{ComesTo}
use Rattle.fs_commands.specs.Moving.{IsMove}

apart_found : (n : ℕ) (found : Option Entry) → are_same (Some n) (option_map (λ (e : Entry). e.node.number) found) ≡ false → IfSome found (λ e. e.node.number ≢ n)
apart_found n None e = tt
apart_found n (Some entry) e = λ same. true≢false (sym (eq-eqb n entry.node.number (sym same)) ∙ e)

pub is_move : (l : Layout) (files : Files) (from to : List (List ℕ)) (source : Named) (into count : ℕ) (found : Option Entry) (other : List ℕ) → ComesTo l files from (Ok (Inside source.dir source.count (Some source.entry))) → ComesTo l files to (Ok (Inside into count found))
    → to ≡ parent to ++ other ∷ [] → are_same (Some source.entry.node.number) (option_map (λ (e : Entry). e.node.number) found) ≡ false → rename_reason l (inodes_of l files) from to ≡ None → IsMove l files from to source into count found other
is_move l files from to source into count found other comes target last apart accepted = record {
  source_comes = comes;
  target_comes = target;
  last = (parent to, last);
  apart = apart_found source.entry.node.number found apart;
  accepted = accepted;
}

-- a path without a last name is the root's
pub no_last : (xs : List (List ℕ)) → None ≡ slice_get xs (length xs - 1) → xs ≡ []
no_last [] e = refl
no_last (x ∷ xs) e = absurd (none-some (get_or (x ∷ xs) (length (x ∷ xs) - 1) x) (e ∙ slice_get-get_or (x ∷ xs) (length (x ∷ xs) - 1) x (omega arith)))
