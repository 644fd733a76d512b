-- A block of the node table that was put into a draft: the blocks, the marks, and how the draft still fits.
use Rattle.std.proofs.Common.{◌≡◌, ◌≢◌, ◌⊎◌, inl, inr, ℕ, ◌<◌, ◌≤◌, ◌==◌, Bool, true, false, not, ◌&&◌, ◌||◌, if◌then◌else◌, [], All, Option, Some, None, is_some, refl, sym, ap, ap₂, subst, ◌∙◌, arith, rules}
use Rattle.std.specs.List.{AllPairs}
use Rattle.std.proofs.lemmas.Bool.{cases_Bool, cases_eq, eq-eqb, ne_eqb, or_left, or_right, false≢true, false_from_ne_true}
use Rattle.std.proofs.lemmas.Bool.Decides.{nat_tests}
use Rattle.base_types.specs.Seal.{Blocks}
use Rattle.base_types.specs.Layouts.{node_byte}
use Rattle.layout_geometry.specs.Geometry.{Geometry, IsGeometry, table_start, data_start}
use Rattle.layout_bytes.specs.declared.node.Node.{Node}
use Rattle.layout_bytes.specs.Node.{node_spelling}
use Rattle.engine_blocks.specs.Running.{has}
use Rattle.engine_blocks.specs.State.{Bookkeeping, IsReusable, MayBeTaken}
use Rattle.engine_blocks.specs.Puts.{IsData}
use Rattle.fs_files.specs.declared.changes.Changed.{Changed}
use Rattle.fs_files.specs.Bytes.{overwrite}
use Rattle.fs_files.specs.Drafts.{DraftState, ChangesSome, change_of, bytes_or, drafted, marks_of, PutsBlock}
use Rattle.fs_files.specs.Frames.{used_of, ReadsBack, HasNewNode}
use Rattle.fs_files.specs.Nodes.{node_block}
use Rattle.fs_files.specs.Shared.{is_kept}
use Rattle.fs_files.specs.Sound.{AreSoundBy, FitsBooks, IsSoundDraft, is_filled}
use Rattle.fs_files.proofs.frames.Cells.{block_from, block_below, node_stored}
use Rattle.fs_files.proofs.frames.Frames.{SharesFiles}
use Rattle.fs_files.proofs.frames.Rules.{HasRules, rules_of, sound_from}
use Rattle.fs_files.proofs.drafts.Lists.{each_of}

module _ (k : Bookkeeping) (d e : DraftState) (at : ℕ) (c : Changed) (geom : IsGeometry k.geom) (low : table_start k.geom ≤ at) (high : at < data_start k.geom) (fits : FitsBooks k d) (puts : PutsBlock at c d e) where
  -- a block of the table isn't freed
  not_freed : has d.freed at ≡ false
  not_freed = false_from_ne_true (has d.freed at) (λ is. omega (arith, (each_of (IsData k.geom) d.freed fits.freed at is).from, high))

  -- nor taken
  not_fresh : is_some (change_of d.fresh at) ≡ false
  not_fresh = by (change_of d.fresh at) refl
    where
      by : (o : Option Changed) → change_of d.fresh at ≡ o → is_some o ≡ false
      by None is = refl
      by (Some x) is = absurd (omega (arith, (each_of (IsReusable k.geom k.reusable) d.taken fits.taken.each at (fits.fresh at x is)).from, high))

  -- the changes after it
  pub put_changed : (q : ℕ) → change_of e.changed q ≡ (if at == q then Some c else change_of d.changed q)
  put_changed q = puts.changed q ∙ ap (λ t. if t then change_of d.changed q else if at == q then Some c else change_of d.changed q) not_fresh

  pub put_fresh : (q : ℕ) → change_of e.fresh q ≡ change_of d.fresh q
  put_fresh q = puts.fresh q ∙ ap (λ t. if t && (at == q) then Some c else change_of d.fresh q) not_fresh

  put_here : change_of e.changed at ≡ Some c
  put_here = put_changed at ∙ ap (λ t. if t then Some c else change_of d.changed at) (eq-eqb at at refl)

  put_other : (q : ℕ) → q ≢ at → change_of e.changed q ≡ change_of d.changed q
  put_other q away = put_changed q ∙ ap (λ t. if t then Some c else change_of d.changed q) (ne_eqb at q (λ is. away (sym is)))

  -- the blocks after it: it has these bytes, and the others are as before
  pub put_own : (m : Blocks) → drafted e m at ≡ c.bytes
  put_own m = grind (arith, nat_tests, not_freed, put_here)

  pub put_others : (m : Blocks) (b : ℕ) → b ≢ at → drafted e m b ≡ drafted d m b
  put_others m b away = λ i. if has (puts.freed i) b then [] else bytes_or (bytes_or (m b) (put_fresh b i)) (put_other b away i)

  -- the marks are as before
  pub put_marks : (marked : ℕ → Bool) (b : ℕ) → marks_of e marked b ≡ marks_of d marked b
  put_marks marked b = λ i. not (has (puts.freed i) b) && (has (puts.taken i) b || marked b)

  -- the draft still fits
  pub put_fits : FitsBooks k e
  put_fits = record {
    none_bare = fits.none_bare;
    changed = λ b x is. changed b x is (cases_eq b at);
    fresh = λ b x is. ap (λ ts. has ts b) puts.taken ∙ fits.fresh b x (sym (put_fresh b) ∙ is);
    taken = subst (MayBeTaken k.geom k.reusable) (sym puts.taken) fits.taken;
    filled = λ b is. filled b (fits.filled b (sym (ap (λ ts. has ts b) puts.taken) ∙ is)) (cases_eq b at);
    freed = subst (All (IsData k.geom)) (sym puts.freed) fits.freed;
  }
    where
      changed : (b : ℕ) (x : Changed) → change_of e.changed b ≡ Some x → (b ≡ at) ⊎ (b ≡ at → ⊥) → (table_start k.geom ≤ b) × (b < k.geom.n)
      changed b x is (inl here) = (omega (arith, here, low), omega (arith, here, high, geom.data_room))
      changed b x is (inr away) = fits.changed b x (sym (put_other b away) ∙ is)

      filled : (b : ℕ) → is_filled d b ≡ true → (b ≡ at) ⊎ (b ≡ at → ⊥) → is_filled e b ≡ true
      filled b was (inl here) =
          or_right (has e.freed b) (is_some (change_of e.changed b) || is_some (change_of e.fresh b))
          (or_left (is_some (change_of e.changed b)) (is_some (change_of e.fresh b)) (ap (λ q. is_some (change_of e.changed q)) here ∙ ap is_some put_here))
      filled b was (inr away) = (λ i. has (puts.freed i) b || (is_some (put_other b away i) || is_some (put_fresh b i))) ∙ was

  put_filled : (b : ℕ) → b ≢ at → is_filled e b ≡ is_filled d b
  put_filled b away = λ i. has (puts.freed i) b || (is_some (put_other b away i) || is_some (put_fresh b i))

  -- and has its rules
  pub put_rules : (live : ℕ → Bool) → HasRules k live d → HasRules k live e
  put_rules live rules = record {
    bits = λ b from below. put_marks k.marked b ∙ rules.bits b from below ∙ ap (λ ks. live b || is_kept ks b) (sym puts.kept);
    untouched = λ b kept.
        let was = rules.untouched b (ap (λ ks. is_kept ks b) (sym puts.kept) ∙ kept) in
        (was.0, was.1, put_filled b (λ here. absurd (omega (arith, here, high, was.0.from))) ∙ was.2);
    changed = λ b x is from. rules.changed b x (sym (put_other b (λ here. absurd (omega (arith, here, high, from)))) ∙ is) from;
    fresh = λ b x is. ap (λ fs. has fs b) puts.freed ∙ rules.fresh b x (sym (put_fresh b) ∙ is);
    apart = λ b some.
        let was : is_some (change_of d.fresh b) ≡ true = ap is_some (sym (put_fresh b)) ∙ some in
        put_other b (λ here. false≢true (sym not_fresh ∙ ap (λ q. is_some (change_of d.fresh q)) (sym here) ∙ was)) ∙ rules.apart b was;
    freed = subst (All (λ b. (has e.taken b || k.marked b) ≡ true)) (sym puts.freed) (subst (λ ts. All (λ b. (has ts b || k.marked b) ≡ true) d.freed) (sym puts.taken) rules.freed);
    once = subst (AllPairs (λ a b. a ≢ b)) (sym puts.freed) rules.once;
  }

  -- so it is sound where the blocks are
  pub put_sound : (m : Blocks) (sound : IsSoundDraft k m d) → AreSoundBy k.geom sound.live (drafted e m) → SharesFiles k.geom (is_kept d.kept) (drafted e m) → IsSoundDraft k m e
  put_sound m sound blocks shared = sound_from k sound.live m e (put_rules sound.live (rules_of k m d sound)) blocks (subst (λ ks. SharesFiles k.geom (is_kept ks) (drafted e m)) (sym puts.kept) shared)

-- A block of the node table that was put changes, since it is no new content.
pub put_changes : (k : Bookkeeping) (g : Geometry) (number : ℕ) (c : Changed) (d e : DraftState) → g ≡ k.geom → IsGeometry g → 1 ≤ number → number ≤ k.geom.i → FitsBooks k e → PutsBlock (node_block g number) c d e → ChangesSome e
put_changes k g number c d e same geom from upto fits puts = (at, by (cases_Bool (is_some (change_of d.fresh at))))
  where
    at : ℕ
    at = node_block g number

    high : at < data_start k.geom
    high = subst (λ (h : Geometry). node_block h number < data_start k.geom) (sym same) (block_below k.geom number (subst IsGeometry same geom).whole_blocks from upto)

    fresh : is_some (change_of d.fresh at) ≡ true → change_of e.fresh at ≡ Some c
    fresh some = puts.fresh at ∙ ap₂ (λ s t. if s && t then Some c else change_of d.fresh at) some (eq-eqb at at refl)

    by : (is_some (change_of d.fresh at) ≡ true) ⊎ (is_some (change_of d.fresh at) ≡ false) → is_some (change_of e.changed at) ≡ true
    by (inl some) = absurd (omega (arith, (each_of (IsReusable k.geom k.reusable) e.taken fits.taken.each at (fits.fresh at c (fresh some))).from, high))
    by (inr none) = ap is_some (puts.changed at ∙ ap₂ (λ s t. if s then change_of d.changed at else if t then Some c else change_of d.changed at) none (eq-eqb at at refl))

-- A node that was put into a draft in its block is there, and the other nodes are as before.
pub node_put : (k : Bookkeeping) (m : Blocks) (marks : ℕ → Bool) (d e : DraftState) (number : ℕ) (node : Node) (c : Changed) → IsGeometry k.geom → 1 ≤ number → number ≤ k.geom.i → FitsBooks k d
    → AreSoundBy k.geom marks (drafted d m) → c.bytes ≡ overwrite (node_byte k.geom.layout number) (node_spelling k.geom.layout node) (drafted d m (node_block k.geom number)) → PutsBlock (node_block k.geom number) c d e → ReadsBack k.geom node
    → HasNewNode k.geom (drafted d m) (drafted e m) number (used_of node)
node_put k m marks d e number node c geom from upto fits sound bytes puts back =
    let low = block_from k.geom number in
    let high = block_below k.geom number geom.whole_blocks from upto in
    node_stored k.geom (drafted d m) (drafted e m) number node geom.whole_blocks from upto back
    (put_own k d e (node_block k.geom number) c geom low high fits puts m ∙ bytes)
    (λ b a z away. put_others k d e (node_block k.geom number) c geom low high fits puts m b away)
    sound.table
