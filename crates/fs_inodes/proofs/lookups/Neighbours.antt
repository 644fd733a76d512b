-- Two paths lie in one directory where their parents lead to one number.
use Rattle.std.proofs.Common.{◌≡◌, ℕ, ◌==◌, false, List, [], ◌∷◌, ◌++◌, Some, None, is_some, option_map, sym, ap, ◌∙◌, ◌⊎◌, inl, inr, eq-eqb, ne_eqb}
use Rattle.std.proofs.lemmas.Bool.{cases_eq}
use Rattle.std.specs.FinMap.{get}
use Rattle.std.proofs.lemmas.Option.{same_Some}
use Rattle.layout_bytes.specs.declared.slot.Slot.{Slot}
use Rattle.lang_tree.specs.Tree.{Tree}
use Rattle.lang_tree.specs.Paths.{name_in}
use Rattle.lang_tree.specs.Figures.{are_in_one}
use Rattle.crash_stands.specs.Inodes.{Inodes, ADir, thing_of}
use Rattle.fs_inodes.proofs.basics.Paths.{Path, which, last_same, parent_end}
use Rattle.fs_inodes.proofs.agreement.Agree.{Agrees}
use Rattle.fs_inodes.proofs.lookups.Rows.{lone_is, lone_at}

module _ (limit : ℕ) (m : Inodes) (t : Tree) (a : Agrees limit m t) (up to : Path) (name other : List ℕ) (d c : ℕ) (slots : List Slot)
    (at_up : get t.names up ≡ Some d) (at_to : get t.names to ≡ Some c) (dir : m d ≡ Some (ADir slots)) where
  -- two paths lie in one directory where the second one has a name there
  in_up : are_in_one (up ++ name ∷ []) (to ++ other ∷ []) ≡ is_some (name_in up (to ++ other ∷ []))
  in_up = ap (λ p. is_some (name_in p (to ++ other ∷ []))) (parent_end up name)

  -- they do where the directories have one number
  pub in_one_given : are_in_one (up ++ name ∷ []) (to ++ other ∷ []) ≡ (d == c)
  in_one_given = in_up ∙ by (cases_eq d c)
    where
      by : (d ≡ c) ⊎ (d ≡ c → ⊥) → is_some (name_in up (to ++ other ∷ [])) ≡ (d == c)
      by (inl same) =
          let one : to ≡ up = a.sound.one_path d to up (a.nodes d ∙ ap (option_map thing_of) dir) (at_to ∙ ap Some (sym same)) at_up in
          ap (λ p. is_some (name_in up (p ++ other ∷ []))) one ∙ ap is_some (lone_at up other) ∙ sym (eq-eqb d c same)
      by (inr off) = none (which (name_in up (to ++ other ∷ []))) ∙ sym (ne_eqb d c off)
        where
          none : (name_in up (to ++ other ∷ []) ≡ None) ⊎ ((b : List ℕ) × (name_in up (to ++ other ∷ []) ≡ Some b)) → is_some (name_in up (to ++ other ∷ [])) ≡ false
          none (inl e) = ap is_some e
          none (inr some) =
              let same = last_same to up other some.0 (lone_is up (to ++ other ∷ []) some.0 some.1) in
              absurd (off (same_Some d c (sym at_up ∙ ap (get t.names) (sym same.0) ∙ at_to)))
