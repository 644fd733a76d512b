-- Trees that have no log.
use Rattle.std.proofs.Common.{◌≡◌, ◌≢◌, ℕ, ◌+◌, ◌-◌, ◌^◌, ◌<◌, ◌≤◌, List, [], ◌∷◌, length, Some, None, refl, sym, ap, ◌∙◌, ◌⊎◌, inl, inr, arith, subst}
use Rattle.std.proofs.Math.Nat.{eq-or-lt_of_le}
use Rattle.std.proofs.lemmas.Option.{none-some, same_Some}
use Rattle.std.specs.FinMap.{get}
use Rattle.lang_tree.specs.Tree.{Tree, Dir, File}
use Rattle.lang_log.specs.Spelling.{AreShort, spellings}
use Rattle.lang_log.specs.Names.{log_path, path_in_log, segment_name, segment_path}
use Rattle.lang_log.specs.Segments.{Segment, IsOneOf, LiesIn, OneIsNamed}
use Rattle.lang_log.specs.Log.{HasNoLog, IsLogOf, Log}
use Rattle.lang_log.proofs.Digits.{same_number}
use Rattle.lang_log.proofs.Rows.{IsBehind, ends, followed, lies_of, one_of_node, short_of}
use Rattle.lang_log.proofs.OneLog.{one_content}

-- What a name in the directory of the log leads to is this segment of it.
record IsNamed (t : Tree) (segments : List Segment) (name : List ℕ) (n : ℕ) (s : Segment) : Type 0 where
  pub one : IsOneOf s segments
  pub is : name ≡ segment_name s.first
  pub node : s.node ≡ n
  pub lies : LiesIn t s
  pub short : AreShort s.appends
  pub within : s.first + length s.appends ≤ 4294967295

named_one : (segments : List Segment) (name : List ℕ) → OneIsNamed segments name → (s : Segment) × IsOneOf s segments × (name ≡ segment_name s.first)
named_one [] name none = absurd none
named_one (s ∷ ss) name (inl e) = (s, inl refl, e)
named_one (s ∷ ss) name (inr later) = let found = named_one ss name later in (found.0, inr found.1, found.2)

-- a directory is no file
apart : (t : Tree) (n : ℕ) (bytes : List ℕ) → get t.nodes n ≡ Some Dir → get t.nodes n ≡ Some (File bytes) → ⊥
apart t n bytes dir file = let same : Dir ≡ File bytes = same_Some Dir (File bytes) (sym dir ∙ file) in cc

same_bytes : (xs ys : List ℕ) → File xs ≡ File ys → xs ≡ ys
same_bytes xs ys e = cc

module _ (t : Tree) (l : Log) (log : IsLogOf t l) where
  named : (name : List ℕ) (n : ℕ) → get t.names (path_in_log name) ≡ Some n → (s : Segment) × IsNamed t log.segments name n s
  named name n at =
      let found = named_one log.segments name (log.has.only name n at) in
      let s = found.0 in
      let lies = lies_of t s log.segments log.has.there found.1 in (
        s,
        record {
          one = found.1;
          is = found.2;
          node = same_Some s.node n (sym lies.at ∙ ap (λ name. get t.names (path_in_log name)) (sym found.2) ∙ at);
          lies = lies;
          short = short_of s log.segments (subst AreShort log.made.appends log.made.short) found.1;
          within = omega (arith, ends l.low s log.segments log.made.row found.1, log.made.within, ap length log.made.appends);
        },
      )

  -- a segment that lies in the tree is one of the log
  mine : (s : Segment) → LiesIn t s → AreShort s.appends → s.first < 4294967296 → IsOneOf s log.segments
  mine s lies short low =
      let found = named (segment_name s.first) s.node lies.at in
      let r = found.0 in
      let first : r.first ≡ s.first = same_number r.first s.first (omega (arith, found.1.within)) (omega (arith, low)) (sym found.1.is) in
      let appends : r.appends ≡ s.appends = one_content t r s found.1.lies lies found.1.node found.1.short short in
      subst (λ q. IsOneOf q log.segments)
      (ap (λ first. record { first = first; node = r.node; appends = r.appends }) first
      ∙ ap (λ node. record { first = s.first; node = node; appends = r.appends }) found.1.node
      ∙ ap (λ appends. record { first = s.first; node = s.node; appends = appends }) appends) found.1.one

  -- where a segment begins later, one begins where this one ends
  behind : (s : Segment) (first n : ℕ) → LiesIn t s → AreShort s.appends → s.first < first → first < 4294967296
      → get t.names (segment_path first) ≡ Some n → IsBehind s log.segments first
  behind s first n lies short later low at =
      let found = named (segment_name first) n at in
      let is : found.0.first ≡ first = same_number found.0.first first (omega (arith, found.1.within)) (omega (arith, low)) (sym found.1.is) in
      subst (IsBehind s log.segments) is
      (followed l.low s found.0 log.segments log.made.row log.has.apart (mine s lies short (omega (arith, later, low))) found.1.one
      (omega (arith, later, is)))

pub file_there : (t : Tree) (n : ℕ) (bytes : List ℕ) → get t.names log_path ≡ Some n → get t.nodes n ≡ Some (File bytes) → HasNoLog t
file_there t n bytes at file l log = apart t n bytes (log.has.directory n at) file

pub directory_in_it : (t : Tree) (name : List ℕ) (n : ℕ) → get t.names (path_in_log name) ≡ Some n → get t.nodes n ≡ Some Dir → HasNoLog t
directory_in_it t name n at dir l log =
    let found = named t l log name n at in
    apart t n _ dir (ap (get t.nodes) (sym found.1.node) ∙ found.1.lies.file)

pub other_name : (t : Tree) (name : List ℕ) (n : ℕ) → get t.names (path_in_log name) ≡ Some n
    → ((first : ℕ) → first < 2 ^ 32 → name ≢ segment_name first) → HasNoLog t
other_name t name n at other l log = let found = named t l log name n at in other found.0.first (omega (arith, found.1.within)) found.1.is

pub two_names : (t : Tree) (name other : List ℕ) (n : ℕ) → get t.names (path_in_log name) ≡ Some n → get t.names (path_in_log other) ≡ Some n
    → name ≢ other → HasNoLog t
two_names t name other n at its differ l log =
    let found = named t l log name n at in
    let second = named t l log other n its in
    let same = one_of_node found.0 second.0 log.segments log.has.apart found.1.one second.1.one (found.1.node ∙ sym second.1.node) in
    differ (found.1.is ∙ ap (λ s. segment_name s.first) same ∙ sym second.1.is)

pub torn_bytes : (t : Tree) (name : List ℕ) (n : ℕ) (bytes : List ℕ) → get t.names (path_in_log name) ≡ Some n → get t.nodes n ≡ Some (File bytes)
    → ((appends : List (List ℕ)) → AreShort appends → bytes ≢ spellings appends) → HasNoLog t
torn_bytes t name n bytes at file torn l log =
    let found = named t l log name n at in
    torn found.0.appends found.1.short
    (same_bytes bytes (spellings found.0.appends) (same_Some _ _ (sym file ∙ ap (get t.nodes) (sym found.1.node) ∙ found.1.lies.file)))

pub no_row : (t : Tree) (s : Segment) (first n : ℕ) → LiesIn t s → AreShort s.appends → s.first < first → first < 2 ^ 32
    → get t.names (segment_path first) ≡ Some n → ((between : ℕ) → s.first < between → between < first → get t.names (segment_path between) ≡ None)
    → first ≢ s.first + length s.appends → HasNoLog t
no_row t s first n lies short later low at none other l log = by (eq-or-lt_of_le is.upto) (eq-or-lt_of_le above)
  where
    is : IsBehind s log.segments first
    is = behind t l log s first n lies short later low at

    next : Segment
    next = is.next

    above : s.first ≤ next.first
    above = omega (arith, is.begins)

    there : LiesIn t next
    there = lies_of t next log.segments log.has.there is.one

    by : (next.first ≡ first) ⊎ (next.first < first) → (s.first ≡ next.first) ⊎ (s.first < next.first) → ⊥
    by (inl e) _ = other (sym e ∙ is.begins)
    by (inr below) (inr higher) = none-some next.node (sym (none next.first higher below) ∙ there.at)
    by (inr below) (inl same) =
        is.apart (same_Some next.node s.node (sym there.at ∙ ap (λ first. get t.names (segment_path first)) (sym same) ∙ lies.at))

pub past_the_end : (t : Tree) (s : Segment) → LiesIn t s → AreShort s.appends → s.first < 2 ^ 32 → 2 ^ 32 - 1 < s.first + length s.appends → HasNoLog t
past_the_end t s lies short low past l log =
    omega (arith, past, ends l.low s log.segments log.made.row (mine t l log s lies short low), log.made.within, ap length log.made.appends)
