-- The next name in the directory of a log: the segment that it has, or why no log has it.
use Rattle.std.proofs.Common.{◌≡◌, ◌≢◌, ◌⊎◌, inl, inr, ⊎_elim, ℕ, ◌+◌, ◌^◌, ◌<◌, ◌≤◌, ◌-◌, Bool, true, List, [], ◌∷◌, ◌++◌, length, Some, None, refl, sym, ◌∙◌, ap, subst, arith}
use Rattle.std.specs.FinMap.{get}
use Rattle.std.proofs.lemmas.List.{length-map}
use Rattle.lang_tree.specs.Names.{names_in}
use Rattle.lang_tree.specs.Tree.{File, Names, Tree}
use Rattle.lang_log.specs.Log.{HasNoLog, IsMadeOf, Log, next_of}
use Rattle.lang_log.specs.Names.{log_path, path_in_log, segment_name, segment_path}
use Rattle.lang_log.specs.Segments.{IsOneOf, LiesIn, OneIsNamed, Segment}
use Rattle.lang_log.specs.Spelling.{AreShort}
use Rattle.fs_log.specs.Finding.{HasFile, HasFoundSome, HasSegment, HasWhole, LeadsSomewhere}
use Rattle.fs_log.proofs.Found.{names_of, none_of_none, one_in_middle, out_of_row, own_name}

-- The file of a segment.

-- a file of whole appends is a segment
pub segment_found : (t : Tree) (first node size count next : ℕ) (bytes : List ℕ) → HasFile t first node bytes → size ≡ length bytes → HasWhole bytes count → next ≡ first + count → HasSegment t first node size next
segment_found t first node size count next bytes file size_is whole next_is = record {
  appends = whole.appends;
  lies = record { at = file.at; file = subst (λ (b : List ℕ). get t.nodes node ≡ Some (File b)) whole.is file.file };
  short = whole.short;
  takes = size_is ∙ ap (λ (b : List ℕ). length b) whole.is;
  next = omega (arith, next_is, whole.counts);
}

-- whose appends may pass the last number
pub past_the_end : ((t : Tree) (s : Segment) → LiesIn t s → AreShort s.appends → s.first < 2 ^ 32 → 2 ^ 32 - 1 < s.first + length s.appends → HasNoLog t)
    → (t : Tree) (first node count : ℕ) (bytes : List ℕ) → HasFile t first node bytes → HasWhole bytes count → first < 2 ^ 32 → 2 ^ 32 - 1 < first + count → HasNoLog t
past_the_end law t first node count bytes file whole low past =
    let s = segment_found t first node (length bytes) count (first + count) bytes file refl whole refl in
    law t (record { first = first; node = node; appends = s.appends }) s.lies s.short low (omega (arith, past, s.next))

-- Its name.
module _ (t : Tree) (seen behind : List (List ℕ)) (name : List ℕ) (names : names_in t.names log_path ≡ seen ++ name ∷ behind)
    (held : (names : Names) (name : List ℕ) → IsOneOf name (names_in names log_path) → (n : ℕ) × (get names (path_in_log name) ≡ Some n)) where
  pub leads_name : (n : ℕ) × (get t.names (path_in_log name) ≡ Some n)
  leads_name = held t.names name (subst (IsOneOf name) (sym names) (one_in_middle seen name behind))

  pub leads_first : (first : ℕ) → name ≡ segment_name first → LeadsSomewhere t first
  leads_first first is = subst (λ (q : List ℕ). (n : ℕ) × (get t.names (path_in_log q) ≡ Some n)) is leads_name

  module _ (numbers : List ℕ) (bytes next : ℕ) (marks : ℕ → Bool) (so_far : HasFoundSome t seen numbers bytes next marks) (first : ℕ) (is : name ≡ segment_name first) (low : first < 2 ^ 32)
      (next_is : (before : List Segment) (s : Segment) (l : Log) → IsMadeOf (before ++ s ∷ []) l → next_of l ≡ s.first + length s.appends)
      (rises : (names : Names) (before behind : List (List ℕ)) (m n : ℕ) → m < 2 ^ 32 → n < 2 ^ 32 → names_in names log_path ≡ before ++ segment_name m ∷ segment_name n ∷ behind
      → (m < n) × ((between : ℕ) → m < between → between < n → get names (segment_path between) ≡ None)) where
    split : names_in t.names log_path ≡ names_of so_far.segments ++ segment_name first ∷ behind
    split = names ∙ (ap (λ (q : List (List ℕ)). q ++ name ∷ behind) so_far.named ∙ ap (λ (q : List ℕ). names_of so_far.segments ++ q ∷ behind) is)

    -- it is out of the row
    pub not_next : ((t : Tree) (s : Segment) (first n : ℕ) → LiesIn t s → AreShort s.appends → s.first < first → first < 2 ^ 32 → get t.names (segment_path first) ≡ Some n
        → ((between : ℕ) → s.first < between → between < first → get t.names (segment_path between) ≡ None) → first ≢ s.first + length s.appends → HasNoLog t)
        → 0 < length numbers → first ≢ next → HasNoLog t
    not_next law some other =
        out_of_row t so_far.segments so_far.log so_far.made so_far.there behind first low split next_is rises
        (omega (arith, some, ap (λ (q : List ℕ). length q) so_far.firsts, length-map so_far.segments (λ (s : Segment). s.first)))
        law (leads_first first is) (λ same. other (same ∙ sym so_far.next))

    -- it leads to a node to which another name leads
    pub not_apart : ((n m : ℕ) → n < 2 ^ 32 → m < 2 ^ 32 → segment_name n ≡ segment_name m → n ≡ m)
        → ((t : Tree) (name other : List ℕ) (n : ℕ) → get t.names (path_in_log name) ≡ Some n → get t.names (path_in_log other) ≡ Some n → name ≢ other → HasNoLog t)
        → (numbers ≡ []) ⊎ (first ≡ next) → (node : ℕ) → get t.names (segment_path first) ≡ Some node → marks node ≡ true → HasNoLog t
    not_apart apart law row node at marked =
        let m = so_far.marked node marked in
        law t (segment_name first) m.0 node at m.2
        (λ same. own_name t so_far.segments so_far.log so_far.made so_far.there behind first low split next_is rises apart (none_or_next row) (subst (OneIsNamed so_far.segments) (sym same) m.1))
      where
        none_or_next : (numbers ≡ []) ⊎ (first ≡ next) → (so_far.segments ≡ []) ⊎ (first ≡ next_of so_far.log)
        none_or_next (inl none) = inl (none_of_none so_far.segments (sym none ∙ so_far.firsts))
        none_or_next (inr is) = inr (is ∙ so_far.next)
