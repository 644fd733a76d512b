-- Of the points of a trace those whose tree has the listing of a tree that stands are those whose tree is alike.
use Rattle.std.proofs.Common.{◌≡◌, ℕ, ◌<◌, ◌^◌, List, slice_get, Option, None, Some, sym, ◌∙◌}
use Rattle.base_types.specs.Seal.{Blocks}
use Rattle.crash_stands.specs.Stands.{StandsFor}
use Rattle.lang_tree.specs.Listing.{listing}
use Rattle.lang_tree.specs.Points.{Point}
use Rattle.lang_tree.specs.Tree.{Tree}
use Rattle.cmd_trace.specs.Contents.{Contents}
use Rattle.cmd_trace_reader.specs.Traces.{IsTrace}
use Rattle.cmd_replay.specs.Named.{AreAlike, HasAllBytes, IsListable}
use Rattle.cmd_replay.specs.Newest.{IsNewest, IsSuch}
use Rattle.cmd_replay.specs.Points.{points_in}
use Rattle.cmd_replay.specs.Walking.{IsListedAs}

-- what laws say of listings, of the points of a trace, and of a tree that stands
pub record HasTreeLaws (c : Contents) : Type 0 where
  pub listings : (limit more : ℕ) (s t : Tree) → limit < 2 ^ 64 → more < 2 ^ 64 → IsListable limit s → IsListable more t → HasAllBytes s → listing s ≡ listing t → AreAlike s t
  pub alike : (s t : Tree) → AreAlike s t → listing s ≡ listing t
  pub points : (number : ℕ) (p : Point) → slice_get (points_in c) number ≡ Some p → IsListable c.geometry.i p.tree
  pub bytes : (number : ℕ) (p : Point) → slice_get (points_in c) number ≡ Some p → HasAllBytes p.tree
  pub stands : (n : ℕ) (img : Blocks) (t : Tree) → StandsFor n img t → (i : ℕ) × (i < 2 ^ 64) × IsListable i t

module _ (c : Contents) (is : IsTrace c) (laws : HasTreeLaws c) (n : ℕ) (img : Blocks) (tree : Tree) (text : List ℕ) (stands : StandsFor n img tree) (listed : text ≡ listing tree) where
  one_tree : (number : ℕ) → IsSuch (IsListedAs text) (points_in c) number → IsSuch (λ t. AreAlike t tree) (points_in c) number
  one_tree number s =
      let found = laws.stands n img tree stands in
      record {
        point = s.point;
        is = s.is;
        such = laws.listings c.geometry.i found.0 s.point.tree tree is.lawful.nodes found.1 (laws.points number s.point s.is) found.2 (laws.bytes number s.point s.is) (s.such ∙ listed);
      }

  one_listing : (number : ℕ) → IsSuch (λ t. AreAlike t tree) (points_in c) number → IsSuch (IsListedAs text) (points_in c) number
  one_listing number s = record { point = s.point; is = s.is; such = laws.alike s.point.tree tree s.such ∙ sym listed }

  pub newest : (low high : ℕ) (found : Option ℕ) → IsNewest (IsListedAs text) (points_in c) low high found → IsNewest (λ t. AreAlike t tree) (points_in c) low high found
  newest low high None none = λ p from upto such. none p from upto (one_listing p such)
  newest low high (Some p) one = (one.0, one.1, one_tree p one.2, λ q after upto such. one.3 q after upto (one_listing q such))
