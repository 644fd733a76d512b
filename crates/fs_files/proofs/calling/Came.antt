-- The blocks that came to a node, perhaps none, and what they leave of a draft.
use Rattle.std.proofs.Common.{◌≡◌, ◌≢◌, ℕ, ◌-◌, ◌*◌, ◌/◌, ◌<◌, ◌≤◌, ◌||◌, Bool, true, false, IsTrue, List, [], ◌∷◌, length, take, get_or, All, refl, sym, ap, subst, ◌∙◌, arith, ⊎_elim}
use Rattle.std.specs.List.{AllPairs}
use Rattle.std.proofs.lemmas.Bool.{cases_lt, false≢true, false_from_ne_true, or_left}
use Rattle.std.proofs.lemmas.List.{append-nil, length-take-le}
use Rattle.std.proofs.lemmas.Bool.Decides.{nat_tests}
use Rattle.base_types.specs.Seal.{Blocks}
use Rattle.base_types.specs.declared.words.Class.{Class}
use Rattle.base_types.specs.Layouts.{most_runs}
use Rattle.layout_geometry.specs.Geometry.{IsGeometry}
use Rattle.layout_extent.specs.Renew.{makes_way, renew}
use Rattle.layout_extent.specs.Runs.{stretches}
use Rattle.engine_blocks.specs.Running.{has}
use Rattle.engine_blocks.specs.Puts.{IsData}
use Rattle.engine_blocks.specs.State.{Bookkeeping, reusable_blocks, IsReusable}
use Rattle.fs_files.specs.declared.nodes.OpenNode.{OpenNode}
use Rattle.fs_files.specs.Bytes.{blocks_for, met}
use Rattle.fs_files.specs.Content.{HasContent, WritesContent}
use Rattle.fs_files.specs.Drafts.{DraftState, change_of, drafted, marks_of, TakesBlocks}
use Rattle.fs_files.specs.Growing.{placed, taken_by, CopiesEdge, GrowsPlaces}
use Rattle.fs_files.specs.Nodes.{class_of}
use Rattle.fs_files.specs.Shared.{is_kept}
use Rattle.fs_files.specs.Sound.{FitsBooks}
use Rattle.fs_files.specs.Writing.{GetsBlocks, HasRoom}
use Rattle.fs_files.proofs.bytes.Pieces.{writes_none}
use Rattle.fs_files.proofs.bytes.Places.{AreNew, taken_zeros}
use Rattle.fs_files.proofs.growing.Copied.{KeepsOutside, edges_written, keeps_outside}
use Rattle.fs_files.proofs.growing.Edges.{edge_none}
use Rattle.fs_files.proofs.frames.Rules.{HasRules, no_fresh, none_of, takes_others, takes_fits, takes_unmarked, takes_rules, taken_not_freed}
use Rattle.fs_files.proofs.drafts.Lists.{each_of}
use Rattle.fs_files.proofs.frames.Places.{all_of}

-- the blocks that come
abbrev pub news : Bookkeeping → ℕ → ℕ → OpenNode → DraftState → List ℕ
news k lo hi o d = take (taken_by (is_kept d.kept) lo hi o.places) (reusable_blocks k)

-- The draft has its rules then, and the blocks are new to it.
pub record CameSound (k : Bookkeeping) (live : ℕ → Bool) (qs : List ℕ) (d e : DraftState) : Type 0 where
  pub rules : HasRules k (λ b. has qs b || live b) e
  pub unmarked : All (λ b. marks_of d k.marked b ≡ false) qs

-- The node has these blocks among its own, and they were taken; what the bytes don't fill of kept ones was copied.
pub record Came (tells : Bool) (k : Bookkeeping) (m : Blocks) (lo hi : ℕ) (o p : OpenNode) (qs : List ℕ) (d g : DraftState) : Type 0 where
  pub base : DraftState
  pub node : p ≡ record o { places = placed (is_kept d.kept) lo hi o.places qs }
  pub many : length qs ≡ taken_by (is_kept d.kept) lo hi o.places
  pub runs : stretches o.places ≤ most_runs k.geom.layout → stretches p.places ≤ most_runs k.geom.layout
  pub takes : TakesBlocks (class_of o.kind) qs d base
  pub fits : FitsBooks k base
  pub inside : All (IsData k.geom) qs
  pub once : AllPairs (λ a b. a ≢ b) qs
  pub others : (b : ℕ) → has qs b ≡ false → drafted base m b ≡ drafted d m b
  pub edges : WritesContent (class_of o.kind) (met lo hi p.places) base g
  pub plain : All (λ b. is_kept d.kept b ≡ false) o.places → g ≡ base
  pub sound : (live : ℕ → Bool) → ((b : ℕ) → IsReusable k.geom k.reusable b → k.marked b ≡ false) → HasRules k live d → CameSound k live qs d base
  pub outside : (live : ℕ → Bool) → ((b : ℕ) → IsReusable k.geom k.reusable b → k.marked b ≡ false) → HasRules k live d → IsTrue tells → ((b : ℕ) → has o.places b ≡ true → marks_of d k.marked b ≡ true) → HasContent m d o.places
      → KeepsOutside m lo hi o.places p.places d g

-- no blocks

takes_none : (class : Class) (d : DraftState) → TakesBlocks class [] d d
takes_none class d = grind (arith, nat_tests, append-nil)

pub none_placed : (test : ℕ → Bool) (i : ℕ) (ps : List ℕ) → renew test i ps [] ≡ ps
none_placed test i [] = refl
none_placed test i (p ∷ ps) = refl

module _ (tells : Bool) (k : Bookkeeping) (m : Blocks) (lo hi : ℕ) (o : OpenNode) (d : DraftState) (fits : FitsBooks k d) (none : taken_by (is_kept d.kept) lo hi o.places ≡ 0) where
  enough : 0 ≡ blocks_for hi - length o.places
  enough = omega (arith, none)

  came_none : Came tells k m lo hi o o [] d d
  came_none = record {
    base = d;
    node = ap (λ xs. record o { places = xs }) (sym (none_placed (makes_way (lo / 1024) (blocks_for hi) (is_kept d.kept) o.places) 0 o.places));
    many = sym none;
    runs = λ few. few;
    takes = takes_none (class_of o.kind) d;
    fits = fits;
    inside = λ i x low. absurd (omega (arith, low));
    once = λ i j x lt low. absurd (omega (arith, low));
    others = λ b out. refl;
    edges = writes_none (class_of o.kind) (met lo hi o.places) d;
    plain = λ none. refl;
    sound = λ live free rules. record { rules = rules; unmarked = λ i x low. absurd (omega (arith, low)) };
    outside = λ live free rules told marked content. record {
      content = content;
      count = omega (arith, enough);
      front = λ i z low. refl;
      back = λ i z past low. refl;
      zeros = λ i z past low. absurd (omega (arith, past, low));
    };
  }

-- some blocks
module _ (tells : Bool) (k : Bookkeeping) (m : Blocks) (lo hi : ℕ) (o p : OpenNode) (d g : DraftState) (geom : IsGeometry k.geom) (fits : FitsBooks k d) (some : lo < hi) (inside : lo ≤ 1024 * length o.places) (gets : GetsBlocks tells k m lo hi o p d g) where
  qs : List ℕ
  qs = news k lo hi o d

  grows : GrowsPlaces lo hi k o p d gets.grown
  grows = gets.takes

  placed_so : p.places ≡ placed (is_kept d.kept) lo hi o.places (news k lo hi o d)
  placed_so = ap (λ (x : OpenNode). x.places) grows.node

  kind_so : p.kind ≡ o.kind
  kind_so = ap (λ (x : OpenNode). x.kind) grows.node

  many : length (news k lo hi o d) ≡ taken_by (is_kept d.kept) lo hi o.places
  many = length-take-le (taken_by (is_kept d.kept) lo hi o.places) (reusable_blocks k) grows.enough

  module _ (live : ℕ → Bool) (free : (b : ℕ) → IsReusable k.geom k.reusable b → k.marked b ≡ false) (rules : HasRules k live d) where
    clear : All (λ b. k.marked b ≡ false) (news k lo hi o d)
    clear = λ i x low. free _ (grows.takeable.each i x low)

    not_marked : (b : ℕ) → has (news k lo hi o d) b ≡ true → marks_of d k.marked b ≡ false
    not_marked = takes_unmarked k (class_of o.kind) (news k lo hi o d) d gets.grown grows.takes gets.first grows.takeable live clear rules

    sound_some : CameSound k live (news k lo hi o d) d gets.grown
    sound_some = record {
      rules = takes_rules k (class_of o.kind) (news k lo hi o d) d gets.grown grows.takes gets.first grows.takeable live clear rules fits;
      unmarked = all_of (λ b. marks_of d k.marked b ≡ false) (news k lo hi o d) not_marked;
    }

    are_new : AreNew (news k lo hi o d) d
    are_new = record {
      once = grows.takeable.distinct;
      changed = λ q is. none_of (change_of d.changed q) (λ c was.
          let at = each_of (IsReusable k.geom k.reusable) (news k lo hi o d) grows.takeable.each q is in
          false≢true (sym (not_marked q is) ∙ rules.bits q at.from at.below ∙ or_left (live q) (is_kept d.kept q) (rules.changed q c was at.from)));
      fresh = λ q is. no_fresh k d gets.first fits q;
      freed = λ q is. taken_not_freed k (class_of o.kind) (news k lo hi o d) d gets.grown grows.takes gets.first grows.takeable live clear rules q is;
    }

    outside_some : IsTrue tells → ((b : ℕ) → has o.places b ≡ true → marks_of d k.marked b ≡ true) → HasContent m d o.places → KeepsOutside m lo hi o.places p.places d g
    outside_some told marked content =
        keeps_outside tells m (class_of p.kind) (is_kept d.kept) lo hi o.places p.places (news k lo hi o d) d gets.grown gets.copies.copied g some inside placed_so many gets.copies.low gets.copies.high told
        content.once grows.takeable.distinct apart
        (λ q is. takes_others k (class_of o.kind) (news k lo hi o d) d gets.grown grows.takes gets.first grows.takeable m q (apart q is))
        (λ q is. each_of (λ b. length (drafted d m b) ≡ 1024) o.places content.whole q is)
        (λ q is. taken_zeros m (class_of o.kind) (news k lo hi o d) d gets.grown q grows.takes are_new is)
        sound_some.rules.apart
      where
        apart : (q : ℕ) → has o.places q ≡ true → has (news k lo hi o d) q ≡ false
        apart q is = false_from_ne_true (has (news k lo hi o d) q) (λ came. false≢true (sym (not_marked q came) ∙ marked q is))

  came_some : Came tells k m lo hi o p (news k lo hi o d) d g
  came_some = record {
    base = gets.grown;
    node = grows.node;
    many = many;
    runs = λ few. grows.runs;
    takes = grows.takes;
    fits = takes_fits k (class_of o.kind) (news k lo hi o d) d gets.grown grows.takes gets.first grows.takeable geom fits;
    inside = λ i x low. let at = grows.takeable.each i x low in record { from = at.from; below = at.below };
    once = grows.takeable.distinct;
    others = takes_others k (class_of o.kind) (news k lo hi o d) d gets.grown grows.takes gets.first grows.takeable m;
    edges = subst (λ (x : Class). WritesContent x (met lo hi p.places) gets.grown g) (ap class_of kind_so)
        (edges_written tells m (class_of p.kind) (is_kept d.kept) lo hi o.places p.places (news k lo hi o d) d gets.grown gets.copies.copied g some inside placed_so many gets.copies.low gets.copies.high);
    plain = λ none.
        let first : gets.copies.copied ≡ gets.grown = subst (λ x. CopiesEdge tells m (class_of p.kind) (get_or p.places (lo / 1024) 0) x gets.grown gets.copies.copied) (edge_none (is_kept d.kept) lo o.places none) gets.copies.low in
        let last : g ≡ gets.copies.copied = subst (λ x. CopiesEdge tells m (class_of p.kind) (get_or p.places (hi / 1024) 0) x gets.copies.copied g) (edge_none (is_kept d.kept) hi o.places none) gets.copies.high in
        last ∙ first;
    sound = sound_some;
    outside = outside_some;
  }

-- the room that a node has is blocks that came
pub came : (tells : Bool) (k : Bookkeeping) (m : Blocks) (lo hi : ℕ) (o p : OpenNode) (d g : DraftState) → IsGeometry k.geom → FitsBooks k d → lo < hi → lo ≤ 1024 * length o.places → HasRoom tells k m lo hi o p d g → Came tells k m lo hi o p (news k lo hi o d) d g
came tells k m lo hi o p d g geom fits some inside room = ⊎_elim (λ more. came_some tells k m lo hi o p d g geom fits some inside (room.gets more))
    (λ enough.
    let none : taken_by (is_kept d.kept) lo hi o.places ≡ 0 = omega (arith, enough) in
    let same = room.same none in
    subst (λ n. Came tells k m lo hi o p (take n (reusable_blocks k)) d g) (sym none)
    (subst (λ (x : OpenNode). Came tells k m lo hi o x [] d g) (sym same.0) (subst (λ (x : DraftState). Came tells k m lo hi o o [] d x) (sym same.1) (came_none tells k m lo hi o d fits none))))
    (cases_lt 0 (taken_by (is_kept d.kept) lo hi o.places))
