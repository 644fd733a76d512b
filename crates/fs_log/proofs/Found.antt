-- The segments of a log, found one behind the other as the directory has their names.
use Rattle.std.proofs.Common.{◌≡◌, ◌≢◌, ◌⊎◌, inl, inr, ⊎_elim, ℕ, suc, ◌+◌, ◌*◌, ◌-◌, ◌^◌, ◌<◌, ◌≤◌, Bool, true, false, cond, not, List, [], ◌∷◌, ◌++◌, length, map, get_or, take, drop, Some, None, refl, sym, ◌∙◌, ap, subst, arith}
use Rattle.std.specs.List.{AllByRecursion}
use Rattle.std.specs.FinMap.{get}
use Rattle.std.specs.Ordering.{is_eq, nat_cmp}
use Rattle.std.specs.declared.cmp.Ordering.{Ordering}
use Rattle.std.specs.declared.cmp.Ordering.TheVariants.{Less, Equal, Greater}
use Rattle.std.proofs.lemmas.Bool.{false≢true}
use Rattle.std.proofs.lemmas.Grind.{flat_map-append}
use Rattle.std.proofs.lemmas.List.{append_assoc, length-append, map-append, take-append-drop, take_more}
use Rattle.std.proofs.Math.Seq.{drop-cons}
use Rattle.std.proofs.lemmas.Map.Lookups.{exact_unsigned}
use Rattle.lang_tree.specs.Names.{names_in}
use Rattle.lang_tree.specs.Tree.{Dir, Names, Tree}
use Rattle.lang_log.specs.Log.{HasNoLog, IsMadeOf, Log, next_of, nothing_logged}
use Rattle.lang_log.specs.Names.{log_path, path_in_log, segment_name, segment_path}
use Rattle.lang_log.specs.Segments.{AreApart, AreNot, HasSegments, IsOneOf, LiesIn, OneIsNamed, Segment, appends_in}
use Rattle.lang_log.specs.Spelling.{AreShort, IsShort, spellings}
use Rattle.fs_log.specs.Finding.{HasDirectory, HasFound, HasFoundSome, HasSegment, LeadsSomewhere}
use Rattle.fs_log.specs.Open.{size_of}
use Rattle.fs_log.proofs.Rows.{EndsWith, ending, next_is_free, size_last}
use Rattle.fs_log.proofs.Whole.{at_least}
use Rattle.fs_log.proofs.Windows.{all_back, all_front}

abbrev pub names_of : List Segment → List (List ℕ)
names_of segments = map (λ (s : Segment). segment_name s.first) segments

abbrev pub firsts_of : List Segment → List ℕ
firsts_of segments = map (λ (s : Segment). s.first) segments

-- Lists.

pub one_in_middle : (xs : List (List ℕ)) (x : List ℕ) (ys : List (List ℕ)) → IsOneOf x (xs ++ x ∷ ys)
one_in_middle [] x ys = inl refl
one_in_middle (y ∷ xs) x ys = inr (one_in_middle xs x ys)

one_more : (x : List ℕ) (xs ys : List (List ℕ)) → IsOneOf x xs → IsOneOf x (xs ++ ys)
one_more x [] ys one = absurd one
one_more x (y ∷ xs) ys (inl is) = inl is
one_more x (y ∷ xs) ys (inr is) = inr (one_more x xs ys is)

one_last : (x : List ℕ) (xs : List (List ℕ)) → IsOneOf x (xs ++ x ∷ [])
one_last x xs = one_in_middle xs x []

all_more : {A : Type 0} (P : A → Type 0) (xs : List A) (x : A) → AllByRecursion P xs → P x → AllByRecursion P (xs ++ x ∷ [])
all_more P [] x all p = (p, tt)
all_more P (y ∷ xs) x all p = (all.0, all_more P xs x all.1 p)

apart_more : (xs : List Segment) (x : Segment) → AreApart xs → AreNot x.node xs → AreApart (xs ++ x ∷ [])
apart_more [] x apart not = (tt, tt)
apart_more (y ∷ xs) x apart not = (all_more (λ (s : Segment). s.node ≢ y.node) xs x apart.0 (λ same. not.0 (sym same)), apart_more xs x apart.1 not.1)

pub none_of_none : (segments : List Segment) → [] ≡ firsts_of segments → segments ≡ []
none_of_none [] is = refl
none_of_none (s ∷ segments) is = absurd (omega (arith, ap (λ (q : List ℕ). length q) is))

-- The set of nodes with one more.

equal : (o : Ordering) → is_eq o ≡ true → o ≡ Equal
equal Less e = absurd cc
equal Equal e = refl
equal Greater e = absurd cc

came_from : (k q : ℕ) (x : Bool) → cond (is_eq (nat_cmp k q)) true x ≡ true → (k ≡ q) ⊎ (x ≡ true)
came_from k q x e = by (is_eq (nat_cmp k q)) refl e
  where
    by : (b : Bool) → is_eq (nat_cmp k q) ≡ b → cond b true x ≡ true → (k ≡ q) ⊎ (x ≡ true)
    by true at e = inl (exact_unsigned k q (equal (nat_cmp k q) at))
    by false at e = inr e

pub not_new : (added has : Bool) → added ≡ not has → added ≡ false → has ≡ true
not_new added true e h = refl
not_new added false e h = absurd cc

pub is_new : (added has : Bool) → added ≡ not has → added ≡ true → has ≡ false
is_new added true e h = absurd cc
is_new added false e h = refl

not_there : (b x : Bool) → cond b true x ≡ false → x ≡ false
not_there true x e = absurd (false≢true (sym e))
not_there false x e = e

-- A segment in the row.

-- the last one of some, and the number behind it
module _ (next_is : (before : List Segment) (s : Segment) (l : Log) → IsMadeOf (before ++ s ∷ []) l → next_of l ≡ s.first + length s.appends)
    (segments : List Segment) (l : Log) (made : IsMadeOf segments l) (some : 0 < length segments) where
  abbrev pub e : EndsWith segments
  e = ending segments some

  pub behind_last : next_of l ≡ e.last.first + length e.last.appends
  behind_last = next_is e.before e.last l (subst (λ (q : List Segment). IsMadeOf q l) e.is made)

  short_last : AreShort e.last.appends
  short_last =
      all_front IsShort e.last.appends (appends_in []) (all_back IsShort (appends_in e.before) (appends_in (e.last ∷ []))
      (subst (AllByRecursion IsShort) (made.appends ∙ (ap appends_in e.is ∙ flat_map-append (λ (q : Segment). q.appends) e.before (e.last ∷ []))) made.short))

  low_last : e.last.first < 2 ^ 32
  low_last = omega (arith, behind_last, made.within)

  -- what comes behind the names of the segments comes behind that of the last one
  split_names : (names behind : List (List ℕ)) (name : List ℕ) → names ≡ names_of segments ++ name ∷ behind → names ≡ names_of e.before ++ segment_name e.last.first ∷ name ∷ behind
  split_names names behind name is =
      is ∙ (ap (λ (q : List Segment). names_of q ++ name ∷ behind) e.is
      ∙ (ap (λ (q : List (List ℕ)). q ++ name ∷ behind) (map-append (λ (s : Segment). segment_name s.first) e.before (e.last ∷ []))
      ∙ append_assoc (names_of e.before) (segment_name e.last.first ∷ []) (name ∷ behind)))

-- What follows from the names that a directory holds.
module _ (t : Tree) (segments : List Segment) (l : Log) (made : IsMadeOf segments l) (there : AllByRecursion (LiesIn t) segments) (behind : List (List ℕ)) (first : ℕ) (low : first < 2 ^ 32)
    (names : names_in t.names log_path ≡ names_of segments ++ segment_name first ∷ behind)
    (next_is : (before : List Segment) (s : Segment) (l : Log) → IsMadeOf (before ++ s ∷ []) l → next_of l ≡ s.first + length s.appends)
    (rises : (names : Names) (before behind : List (List ℕ)) (m n : ℕ) → m < 2 ^ 32 → n < 2 ^ 32 → names_in names log_path ≡ before ++ segment_name m ∷ segment_name n ∷ behind
    → (m < n) × ((between : ℕ) → m < between → between < n → get names (segment_path between) ≡ None)) where
  module _ (some : 0 < length segments) where
    abbrev last : Segment
    last = (e next_is segments l made some).last

    abbrev before : List Segment
    before = (e next_is segments l made some).before

    rise : (last.first < first) × ((between : ℕ) → last.first < between → between < first → get t.names (segment_path between) ≡ None)
    rise = rises t.names (names_of before) behind last.first first (low_last next_is segments l made some) low (split_names next_is segments l made some (names_in t.names log_path) behind (segment_name first) names)

    lies : LiesIn t last
    lies = (all_back (LiesIn t) before (last ∷ []) (subst (AllByRecursion (LiesIn t)) (e next_is segments l made some).is there)).0

    -- one that isn't the next one in the row belongs to no log
    pub out_of_row : ((t : Tree) (s : Segment) (first n : ℕ) → LiesIn t s → AreShort s.appends → s.first < first → first < 2 ^ 32 → get t.names (segment_path first) ≡ Some n
        → ((between : ℕ) → s.first < between → between < first → get t.names (segment_path between) ≡ None) → first ≢ s.first + length s.appends → HasNoLog t)
        → LeadsSomewhere t first → first ≢ next_of l → HasNoLog t
    out_of_row law leads other =
        law t last first leads.0 lies (short_last next_is segments l made some) rise.0 low leads.1 rise.1 (λ same. other (same ∙ sym (behind_last next_is segments l made some)))

    -- and where it is the next one, the last one has appends
    filled : first ≡ next_of l → 0 < size_of segments
    filled is =
        let count : 0 < length last.appends = omega (arith, is, behind_last next_is segments l made some, rise.0) in
        let size : size_of segments ≡ length (spellings last.appends) = ap size_of (e next_is segments l made some).is ∙ size_last before last in
        omega (arith, size, count, at_least last.appends)

  -- it has a name of its own
  pub own_name : ((n m : ℕ) → n < 2 ^ 32 → m < 2 ^ 32 → segment_name n ≡ segment_name m → n ≡ m) → (segments ≡ []) ⊎ (first ≡ next_of l) → OneIsNamed segments (segment_name first) → ⊥
  own_name apart (inl none) named = subst (λ (q : List Segment). OneIsNamed q (segment_name first) → ⊥) (sym none) (λ one. one) named
  own_name apart (inr is) named = by (ap (λ (q : List Segment). length q) refl) (some_or_none segments refl)
    where
      some_or_none : (q : List Segment) → segments ≡ q → (segments ≡ []) ⊎ (0 < length segments)
      some_or_none [] is = inl is
      some_or_none (s ∷ q) is = inr (omega (arith, ap (λ (q : List Segment). length q) is))

      by : length segments ≡ length segments → (segments ≡ []) ⊎ (0 < length segments) → ⊥
      by h (inl none) = subst (λ (q : List Segment). OneIsNamed q (segment_name first) → ⊥) (sym none) (λ one. one) named
      by h (inr some) = next_is_free apart segments l made (inr (filled some is)) (subst (λ (n : ℕ). OneIsNamed segments (segment_name n)) is named)

-- One segment more.
module _ (t : Tree) (seen : List (List ℕ)) (numbers : List ℕ) (bytes behind : ℕ) (marks : ℕ → Bool) (so_far : HasFoundSome t seen numbers bytes behind marks)
    (first : ℕ) (row : (numbers ≡ []) ⊎ (first ≡ behind)) (low : first < 2 ^ 32) (node size next : ℕ) (segment : HasSegment t first node size next) (small : next < 2 ^ 32)
    (lone : (s : Segment) → AreShort s.appends → s.first + length s.appends ≤ 2 ^ 32 - 1 → IsMadeOf (s ∷ []) (record { low = s.first; appends = s.appends }))
    (joined : (segments : List Segment) (node : ℕ) (appends : List (List ℕ)) (l : Log) → IsMadeOf segments l → AreShort appends → next_of l + length appends ≤ 2 ^ 32 - 1
    → IsMadeOf (segments ++ record { first = next_of l; node = node; appends = appends } ∷ []) (record { low = l.low; appends = l.appends ++ appends })) where
  abbrev new : Segment
  new = record { first = first; node = node; appends = segment.appends }

  -- the log that they make then
  pub record Longer : Type 0 where
    pub log : Log
    pub made : IsMadeOf (so_far.segments ++ new ∷ []) log
    pub comes : next ≡ next_of log

  room : first + length segment.appends ≤ 2 ^ 32 - 1
  room = omega (arith, segment.next, small)

  alone : so_far.segments ≡ [] → Longer
  alone none = record {
    log = record { low = first; appends = segment.appends };
    made = subst (λ (q : List Segment). IsMadeOf (q ++ new ∷ []) (record { low = first; appends = segment.appends })) (sym none) (lone new segment.short room);
    comes = segment.next;
  }

  behind_others : first ≡ behind → Longer
  behind_others is =
      let begins : first ≡ next_of so_far.log = is ∙ so_far.next in
      let fits : next_of so_far.log + length segment.appends ≤ 2 ^ 32 - 1 = omega (arith, room, begins) in
      record {
        log = record { low = so_far.log.low; appends = so_far.log.appends ++ segment.appends };
        made = subst (λ (n : ℕ). IsMadeOf (so_far.segments ++ record { first = n; node = node; appends = segment.appends } ∷ []) (record { low = so_far.log.low; appends = so_far.log.appends ++ segment.appends })) (sym begins)
            (joined so_far.segments node segment.appends so_far.log so_far.made segment.short fits);
        comes = omega (arith, segment.next, begins, length-append so_far.log.appends segment.appends);
      }

  longer : Longer
  longer = ⊎_elim (λ none. alone (none_of_none so_far.segments (sym none ∙ so_far.firsts))) behind_others row

  module _ (later : ℕ → Bool) (fresh : marks node ≡ false) (updates : (q : ℕ) → later q ≡ cond (is_eq (nat_cmp node q)) true (marks q)) (marked : later node ≡ true) where
    pub found_more : HasFoundSome t (seen ++ segment_name first ∷ []) (numbers ++ first ∷ []) size next later
    found_more = record {
      segments = so_far.segments ++ new ∷ [];
      log = longer.log;
      named = named;
      there = all_more (LiesIn t) so_far.segments new so_far.there segment.lies;
      apart = apart_more so_far.segments new so_far.apart (so_far.others node fresh);
      marked = λ n is. of_mark n (came_from node n (marks n) (sym (updates n) ∙ is));
      others = others;
      made = longer.made;
      firsts = ap (λ (q : List ℕ). q ++ first ∷ []) so_far.firsts ∙ sym (map-append (λ (s : Segment). s.first) so_far.segments (new ∷ []));
      size = segment.takes ∙ sym (size_last so_far.segments new);
      next = longer.comes;
    }
      where
        joined_names : names_of (so_far.segments ++ new ∷ []) ≡ names_of so_far.segments ++ segment_name first ∷ []
        joined_names = map-append (λ (s : Segment). segment_name s.first) so_far.segments (new ∷ [])

        named : seen ++ segment_name first ∷ [] ≡ names_of (so_far.segments ++ new ∷ [])
        named = ap (λ (q : List (List ℕ)). q ++ segment_name first ∷ []) so_far.named ∙ sym joined_names

        of_mark : (n : ℕ) → (node ≡ n) ⊎ (marks n ≡ true) → (name : List ℕ) × OneIsNamed (so_far.segments ++ new ∷ []) name × (get t.names (path_in_log name) ≡ Some n)
        of_mark n (inl is) = (segment_name first, subst (IsOneOf (segment_name first)) (sym joined_names) (one_last (segment_name first) (names_of so_far.segments)), segment.lies.at ∙ ap Some is)
        of_mark n (inr is) = let m = so_far.marked n is in (m.0, subst (IsOneOf m.0) (sym joined_names) (one_more m.0 (names_of so_far.segments) (segment_name first ∷ []) m.1), m.2)

        others : (n : ℕ) → later n ≡ false → AreNot n (so_far.segments ++ new ∷ [])
        others n is = all_more (λ (s : Segment). s.node ≢ n) so_far.segments new
            (so_far.others n (not_there (is_eq (nat_cmp node n)) (marks n) (sym (updates n) ∙ is)))
            (λ same. false≢true (sym is ∙ (ap later (sym same) ∙ marked)))

-- no segment so far
pub found_none : (t : Tree) (names : List (List ℕ)) (numbers : List ℕ) (marks : ℕ → Bool) → names ≡ [] → numbers ≡ [] → ((n : ℕ) → marks n ≡ false) → IsMadeOf [] nothing_logged → HasFoundSome t names numbers 0 0 marks
found_none t names numbers marks no_names no_numbers free made = record {
  segments = [];
  log = nothing_logged;
  named = no_names;
  there = tt;
  apart = tt;
  marked = λ n is. absurd (false≢true (sym (free n) ∙ is));
  others = λ n is. tt;
  made = made;
  firsts = no_numbers;
  size = refl;
  next = refl;
}

-- the next name, behind those so far
pub next_name : (names : List (List ℕ)) (i : ℕ) (name : List ℕ) → i < length names → name ≡ get_or names i name → names ≡ take i names ++ name ∷ drop (i + 1) names
next_name names i name within is =
    let next : suc i ≡ i + 1 = omega arith in
    sym (take-append-drop i names) ∙ ap (λ (q : List (List ℕ)). take i names ++ q)
    (drop-cons names i name within ∙ (ap (λ (n : List ℕ). n ∷ drop (suc i) names) (sym is) ∙ ap (λ (k : ℕ). name ∷ drop k names) next))

pub names_so_far : (names : List (List ℕ)) (i : ℕ) (name : List ℕ) → i < length names → name ≡ get_or names i name → take (i + 1) names ≡ take i names ++ name ∷ []
names_so_far names i name within is = take_more names i name within ∙ ap (λ (n : List ℕ). take i names ++ n ∷ []) (sym is)

-- all names are those of the segments that were found
pub found_all : ((t : Tree) (segments : List Segment) (n : ℕ) → get t.names log_path ≡ Some n → get t.nodes n ≡ Some Dir → names_in t.names log_path ≡ map (λ s. segment_name s.first) segments → AllByRecursion (LiesIn t) segments → AreApart segments → HasSegments t segments)
    → (t : Tree) (numbers : List ℕ) (bytes behind : ℕ) (marks : ℕ → Bool) → HasDirectory t → HasFoundSome t (names_in t.names log_path) numbers bytes behind marks → HasFound t numbers bytes behind
found_all law t numbers bytes behind marks directory found = record {
  segments = found.segments;
  log = found.log;
  has = law t found.segments directory.0 directory.1 directory.2 found.named found.there found.apart;
  made = found.made;
  firsts = found.firsts;
  size = found.size;
  next = found.next;
}
