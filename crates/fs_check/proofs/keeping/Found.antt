-- The snapshots that were found: those below one node more.
use Rattle.std.proofs.Common.{◌≡◌, ◌≢◌, ◌⊎◌, inl, inr, ◌↔◌, ℕ, ◌+◌, ◌<◌, ◌≤◌, Bool, true, false, true≢false, cond, if◌then◌else◌, List, Option, None, Some, option_map, refl, sym, ap, subst, ◌∙◌, arith}
use Rattle.std.proofs.lemmas.Bool.{cases_Bool, cases_lt}
use Rattle.std.proofs.lemmas.Option.{none-some, same_Some}
use Rattle.std.specs.Ordering.{nat_cmp, eq_by_cmp, is_eq}
use Rattle.std.specs.Cmp.{Equal-is, nat_cmp_total, tied_itself}
use Rattle.std.specs.Cmp.Lexicographic.{slice_cmp, lists_total}
use Rattle.std.specs.FinMap.{FinMap, nat_cmp-IsAntisymmetric, slice_cmp-IsAntisymmetric, get, insert, get-insert}
use Rattle.base_types.specs.Seal.{Blocks}
use Rattle.layout_geometry.specs.Geometry.{Geometry}
use Rattle.layout_bytes.specs.declared.node.Node.{Node}
use Rattle.layout_bytes.specs.declared.node.NodeKind.TheVariants.{Snapshot}
use Rattle.layout_bytes.specs.Bitmap.{bit_in}
use Rattle.lang_tree.specs.Tree.{Kept}
use Rattle.crash_stands.specs.Files.{used_node}
use Rattle.crash_stands.specs.Stands.{HoldsSnapshot}
use Rattle.fs_files.specs.Shared.{keepers}
use Rattle.fs_check.specs.KeptMeeting.{CountsMet}
use Rattle.fs_check.specs.Snapshots.{AreCheckedBelow, IsGoodSnapshot, KeepsBlock, Numbers, keepers_below}
use Rattle.fs_check.proofs.keeping.Counts.{Each, keeps_as_many, keeps_more}

-- what a map by names has once a name was put in: that under the name, and under another one what it had
pub now_at : {X : Type 0} (m : FinMap (slice_cmp nat_cmp) X) (name : List ℕ) (v : X) (a : List ℕ) → ((a ≡ name) × (get (insert m name v) a ≡ Some v)) ⊎ ((a ≢ name) × (get (insert m name v) a ≡ get m a))
now_at {X} m name v a = by (eq_by_cmp (slice_cmp nat_cmp) a name) refl
  where
    there : get (insert m name v) a ≡ cond (eq_by_cmp (slice_cmp nat_cmp) a name) (Some v) (get m a)
    there = get-insert (lists_total nat_cmp_total) m name v a

    apart : eq_by_cmp (slice_cmp nat_cmp) a name ≡ false → a ≢ name
    apart e same = true≢false (sym (ap is_eq (tied_itself (lists_total nat_cmp_total) name)) ∙ sym (ap (λ x. eq_by_cmp (slice_cmp nat_cmp) x name) same) ∙ e)

    by : (b : Bool) → eq_by_cmp (slice_cmp nat_cmp) a name ≡ b → ((a ≡ name) × (get (insert m name v) a ≡ Some v)) ⊎ ((a ≢ name) × (get (insert m name v) a ≡ get m a))
    by true e = inl (slice_cmp-IsAntisymmetric nat_cmp-IsAntisymmetric a name ((Equal-is (slice_cmp nat_cmp a name)).0 e), there ∙ ap (λ b. cond b (Some v) (get m a)) e)
    by false e = inr (apart e, there ∙ ap (λ b. cond b (Some v) (get m a)) e)

-- node k is no snapshot
pub checked_plain : Each → (g : Geometry) (m : Blocks) (k : ℕ) (numbers : Numbers) (counts : List ℕ) → ((node : Node) → used_node g m k ≡ Some node → node.kind ≢ Snapshot) → AreCheckedBelow g m k numbers counts → AreCheckedBelow g m (k + 1) numbers counts
checked_plain counted g m k numbers counts plain h = record {
  snapshots = h.snapshots;
  keeps = λ name kept at. let is = h.keeps name kept at in let low = is.1 in (is.0, omega (arith, low));
  each = λ n node low used kind. h.each n node (under n node low used kind (cases_lt n k)) used kind;
  good = λ n node low used kind. h.good n node (under n node low used kind (cases_lt n k)) used kind;
  named = h.named;
  counted = λ b. keeps_as_many counted g m k b (keepers counts b) (λ is. plain is.0.node (ap (used_node g m) (sym is.1) ∙ is.0.is_node) is.0.kind) (h.counted b);
}
  where
    under : (n : ℕ) (node : Node) → n < k + 1 → used_node g m n ≡ Some node → node.kind ≡ Snapshot → (n < k) ⊎ (k ≤ n) → n < k
    under n node low used kind (inl less) = less
    under n node low used kind (inr over) = let same : k ≡ n = omega (arith, low, over) in absurd (plain node (ap (used_node g m) same ∙ used) kind)

-- Node k is a snapshot: it is held under this name, which had no number, and it is good; it keeps just the blocks that were met.
pub record IsMore (g : Geometry) (m : Blocks) (k : ℕ) (node : Node) (numbers new : Numbers) (counts later : List ℕ) : Type 0 where
  pub used : used_node g m k ≡ Some node
  pub kind : node.kind ≡ Snapshot
  pub good : IsGoodSnapshot g m node
  pub name : List ℕ
  pub kept : Kept
  pub number : kept.number ≡ k
  pub holds : HoldsSnapshot g m name kept
  pub fresh : get numbers name ≡ None
  pub grows : new ≡ insert numbers name k
  pub met : Blocks
  pub just : (b : ℕ) → (bit_in met b ≡ true) ↔ KeepsBlock g m k b
  pub counts_met : CountsMet met counts later

pub checked_more : Each → (g : Geometry) (m : Blocks) (k : ℕ) (node : Node) (numbers new : Numbers) (counts later : List ℕ) → IsMore g m k node numbers new counts later → AreCheckedBelow g m k numbers counts → AreCheckedBelow g m (k + 1) new later
checked_more each_counted g m k node numbers new counts later x h = record {
  snapshots = insert h.snapshots x.name x.kept;
  keeps = λ name kept at. keeps name kept at (now_at h.snapshots x.name x.kept name);
  each = λ n other low used kind. each n other used kind low (cases_lt n k);
  good = λ n other low used kind. good n other used kind low (cases_lt n k);
  named = λ name. ap (λ (ns : Numbers). get ns name) x.grows ∙ named name (now_at h.snapshots x.name x.kept name) (now_at numbers x.name k name);
  counted = λ b. counted b (cases_Bool (bit_in x.met b));
}
  where
    keeps : (name : List ℕ) (kept : Kept) → get (insert h.snapshots x.name x.kept) name ≡ Some kept
        → ((name ≡ x.name) × (get (insert h.snapshots x.name x.kept) name ≡ Some x.kept)) ⊎ ((name ≢ x.name) × (get (insert h.snapshots x.name x.kept) name ≡ get h.snapshots name))
        → HoldsSnapshot g m name kept × (kept.number < k + 1)
    keeps name kept at (inl here) =
        let same : x.kept ≡ kept = same_Some x.kept kept (sym here.1 ∙ at) in
        (subst (λ n. HoldsSnapshot g m n kept) (sym here.0) (subst (λ (c : Kept). HoldsSnapshot g m x.name c) same x.holds), let e = ap (λ (c : Kept). c.number) (sym same) ∙ x.number in omega (arith, e))
    keeps name kept at (inr there) = let is = h.keeps name kept (sym there.1 ∙ at) in let low = is.1 in (is.0, omega (arith, low))

    -- the name had no snapshot
    fresh : get h.snapshots x.name ≡ None
    fresh = by (get h.snapshots x.name) refl
      where
        by : (o : Option Kept) → get h.snapshots x.name ≡ o → get h.snapshots x.name ≡ None
        by None e = e
        by (Some c) e = absurd (none-some c.number (sym x.fresh ∙ h.named x.name ∙ ap (option_map (λ (k : Kept). k.number)) e))

    each : (n : ℕ) (other : Node) → used_node g m n ≡ Some other → other.kind ≡ Snapshot → n < k + 1 → (n < k) ⊎ (k ≤ n)
        → (name : List ℕ) × (c : Kept) × (get (insert h.snapshots x.name x.kept) name ≡ Some c) × (c.number ≡ n)
    each n other used kind low (inr over) = let same : k ≡ n = omega (arith, low, over) in (x.name, x.kept, here (now_at h.snapshots x.name x.kept x.name), x.number ∙ same)
      where
        here : ((x.name ≡ x.name) × (get (insert h.snapshots x.name x.kept) x.name ≡ Some x.kept)) ⊎ ((x.name ≢ x.name) × (get (insert h.snapshots x.name x.kept) x.name ≡ get h.snapshots x.name)) → get (insert h.snapshots x.name x.kept) x.name ≡ Some x.kept
        here (inl is) = is.1
        here (inr other) = absurd (other.0 refl)
    each n other used kind low (inl under) =
        let e = h.each n other under used kind in
        (e.0, e.1, still e.0 e.1 e.2 (now_at h.snapshots x.name x.kept e.0), e.3)
      where
        still : (name : List ℕ) (c : Kept) → get h.snapshots name ≡ Some c
            → ((name ≡ x.name) × (get (insert h.snapshots x.name x.kept) name ≡ Some x.kept)) ⊎ ((name ≢ x.name) × (get (insert h.snapshots x.name x.kept) name ≡ get h.snapshots name))
            → get (insert h.snapshots x.name x.kept) name ≡ Some c
        still name c at (inl here) = absurd (none-some c (sym fresh ∙ ap (get h.snapshots) (sym here.0) ∙ at))
        still name c at (inr there) = there.1 ∙ at

    good : (n : ℕ) (other : Node) → used_node g m n ≡ Some other → other.kind ≡ Snapshot → n < k + 1 → (n < k) ⊎ (k ≤ n) → IsGoodSnapshot g m other
    good n other used kind low (inl under) = h.good n other under used kind
    good n other used kind low (inr over) =
        let same : k ≡ n = omega (arith, low, over) in
        subst (IsGoodSnapshot g m) (same_Some node other (sym x.used ∙ ap (used_node g m) same ∙ used)) x.good

    named : (name : List ℕ) → ((name ≡ x.name) × (get (insert h.snapshots x.name x.kept) name ≡ Some x.kept)) ⊎ ((name ≢ x.name) × (get (insert h.snapshots x.name x.kept) name ≡ get h.snapshots name))
        → ((name ≡ x.name) × (get (insert numbers x.name k) name ≡ Some k)) ⊎ ((name ≢ x.name) × (get (insert numbers x.name k) name ≡ get numbers name))
        → get (insert numbers x.name k) name ≡ option_map (λ (c : Kept). c.number) (get (insert h.snapshots x.name x.kept) name)
    named name (inl here) (inl is) = is.1 ∙ ap (λ n. Some n) (sym x.number) ∙ ap (option_map (λ (c : Kept). c.number)) (sym here.1)
    named name (inl here) (inr other) = absurd (other.0 here.0)
    named name (inr there) (inl is) = absurd (there.0 is.0)
    named name (inr there) (inr other) = other.1 ∙ h.named name ∙ ap (option_map (λ (c : Kept). c.number)) (sym there.1)

    plus : (n : ℕ) → n + 0 ≡ n
    plus n = omega arith

    counted : (b : ℕ) → (bit_in x.met b ≡ true) ⊎ (bit_in x.met b ≡ false) → keepers later b ≡ keepers_below g m (k + 1) b
    counted b (inl is) = x.counts_met b ∙ ap (λ t. keepers counts b + (if t then 1 else 0)) is ∙ keeps_more each_counted g m k b (keepers counts b) ((x.just b).0 is) (h.counted b)
    counted b (inr isnt) = x.counts_met b ∙ ap (λ t. keepers counts b + (if t then 1 else 0)) isnt ∙ plus (keepers counts b)
        ∙ keeps_as_many each_counted g m k b (keepers counts b) (λ keeps. true≢false (sym ((x.just b).1 keeps) ∙ isnt)) (h.counted b)
