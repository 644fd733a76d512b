-- A tree has one log at most.
use Rattle.std.proofs.Common.{◌≡◌, ◌≢◌, ℕ, ◌+◌, ◌<◌, ◌≤◌, List, [], ◌∷◌, ◌++◌, length, refl, sym, ap, ap₂, ◌∙◌, ◌⊎◌, inl, inr, arith, subst}
use Rattle.std.specs.FinMap.{get}
use Rattle.std.specs.List.{AllByRecursion}
use Rattle.lang_tree.specs.Tree.{Tree}
use Rattle.lang_log.specs.Spelling.{AreShort, spellings}
use Rattle.lang_log.specs.Names.{segment_name, segment_path}
use Rattle.lang_log.specs.Segments.{Segment, HasSegments, IsOneOf, LiesIn, AreNot, AreApart, OneIsNamed, AreInRow, appends_in, low_of}
use Rattle.lang_log.specs.Log.{Log, IsLogOf, IsMadeOf}
use Rattle.lang_log.proofs.Rows.{ends, least, lies_of, not_of, short_before, short_behind}
use Rattle.lang_log.proofs.Digits.{same_number}
use Rattle.lang_log.proofs.Spelled.{same_appends}

-- two segments of one number that lie in a tree are one node, and have one content
pub one_node : (t : Tree) (s r : Segment) → LiesIn t s → LiesIn t r → s.first ≡ r.first → s.node ≡ r.node
one_node t s r a b e = let same = ap (λ n. get t.names (segment_path n)) e in let mine = a.at in let its = b.at in cc

pub one_content : (t : Tree) (s r : Segment) → LiesIn t s → LiesIn t r → s.node ≡ r.node → AreShort s.appends → AreShort r.appends → s.appends ≡ r.appends
one_content t s r a b e short other = same_appends s.appends r.appends short other bytes
  where
    bytes : spellings s.appends ≡ spellings r.appends
    bytes = let same = ap (get t.nodes) e in let mine = a.file in let its = b.file in cc

-- each number with which one of the second segments begins is that of one of the first
abbrev Covers : List Segment → List Segment → Type 0
Covers ss rs = (r : Segment) → IsOneOf r rs → (s : Segment) × IsOneOf s ss × (s.first ≡ r.first)

found : (segments : List Segment) (n : ℕ) → ((s : Segment) → IsOneOf s segments → s.first < 10000000000) → n < 10000000000
    → OneIsNamed segments (segment_name n)
    → (s : Segment) × IsOneOf s segments × (s.first ≡ n)
found [] n small low named = absurd named
found (s ∷ segments) n small low (inl e) = (s, inl refl, same_number s.first n (small s (inl refl)) low (sym e))
found (s ∷ segments) n small low (inr later) = let r = found segments n (λ s h. small s (inr h)) low later in (r.0, inr r.1, r.2)

covers : (t : Tree) (ss rs : List Segment) (l k : Log) → HasSegments t ss → HasSegments t rs → IsMadeOf ss l → IsMadeOf rs k → Covers ss rs
covers t ss rs l k has other made its r one =
    found ss r.first (λ s h. omega (arith, ends l.low s ss made.row h, made.within, ap length made.appends)) (omega (arith, ends k.low r rs its.row one, its.within, ap length its.appends))
    (has.only (segment_name r.first) r.node (lies_of t r rs other.there one).at)

behind : (t : Tree) (s r : Segment) (ss rs : List Segment) → AllByRecursion (LiesIn t) (s ∷ ss) → AllByRecursion (LiesIn t) (r ∷ rs)
    → s.node ≡ r.node → AreNot r.node rs → Covers (s ∷ ss) (r ∷ rs) → Covers ss rs
behind t s r ss rs lies other same apart all q one = by (all q (inr one))
  where
    by : (p : Segment) × IsOneOf p (s ∷ ss) × (p.first ≡ q.first) → (p : Segment) × IsOneOf p ss × (p.first ≡ q.first)
    by (p, inl e, first) =
        absurd (not_of r.node q rs apart one (sym (one_node t s q lies.0 (lies_of t q rs other.1 one) (sym (ap (λ s. s.first) e) ∙ first)) ∙ same))
    by (p, inr later, first) = (p, later, first)

same_row : (t : Tree) (n : ℕ) (ss rs : List Segment) → AllByRecursion (LiesIn t) ss → AllByRecursion (LiesIn t) rs → AreApart ss → AreApart rs
    → AreInRow n ss → AreInRow n rs → AreShort (appends_in ss) → AreShort (appends_in rs)
    → Covers ss rs → Covers rs ss → appends_in ss ≡ appends_in rs
same_row t n [] [] lies other apart its row behind_it short long all back = refl
same_row t n [] (r ∷ rs) lies other apart its row behind_it short long all back = absurd ((all r (inl refl)).1)
same_row t n (s ∷ ss) [] lies other apart its row behind_it short long all back = absurd ((back s (inl refl)).1)
same_row t n (s ∷ ss) (r ∷ rs) lies other apart its row behind_it short long all back =
    let node = one_node t s r lies.0 other.0 (row.0 ∙ sym behind_it.0) in
    let content = one_content t s r lies.0 other.0 node (short_before s.appends (appends_in ss) short) (short_before r.appends (appends_in rs) long) in
    ap₂ (λ xs ys. xs ++ ys) content
    (same_row t (n + length s.appends) ss rs lies.1 other.1 apart.1 its.1 row.1 (subst (λ xs. AreInRow (n + length xs) rs) (sym content) behind_it.1)
    (short_behind s.appends (appends_in ss) short) (short_behind r.appends (appends_in rs) long)
    (behind t s r ss rs lies other node its.0 all) (behind t r s rs ss other lies (sym node) apart.0 back))

same_low : (ss rs : List Segment) → AreInRow (low_of ss) ss → AreInRow (low_of rs) rs → Covers ss rs → Covers rs ss → low_of ss ≡ low_of rs
same_low [] [] row its all back = refl
same_low [] (r ∷ rs) row its all back = absurd ((all r (inl refl)).1)
same_low (s ∷ ss) [] row its all back = absurd ((back s (inl refl)).1)
same_low (s ∷ ss) (r ∷ rs) row its all back =
    let p = all r (inl refl) in
    let q = back s (inl refl) in
    omega (arith, least s.first p.0 (s ∷ ss) row p.1, least r.first q.0 (r ∷ rs) its q.1, p.2, q.2)

pub one_log : (t : Tree) (l k : Log) → IsLogOf t l → IsLogOf t k → l ≡ k
one_log t l k a b = ap₂ (λ low appends. record { low = low; appends = appends }) low appends
  where
    all : Covers a.segments b.segments
    all = covers t a.segments b.segments l k a.has b.has a.made b.made

    back : Covers b.segments a.segments
    back = covers t b.segments a.segments k l b.has a.has b.made a.made

    low : l.low ≡ k.low
    low = a.made.low ∙ same_low a.segments b.segments (subst (λ n. AreInRow n a.segments) a.made.low a.made.row) (subst (λ n. AreInRow n b.segments) b.made.low b.made.row) all back ∙ sym b.made.low

    appends : l.appends ≡ k.appends
    appends = a.made.appends
        ∙ same_row t l.low a.segments b.segments a.has.there b.has.there a.has.apart b.has.apart a.made.row (subst (λ n. AreInRow n b.segments) (sym low) b.made.row)
        (subst AreShort a.made.appends a.made.short) (subst AreShort b.made.appends b.made.short) all back
        ∙ sym b.made.appends
