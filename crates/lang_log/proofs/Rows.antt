-- Rows of segments: their last one, and what changes of it leave of the others.
use Rattle.std.proofs.Common.{◌≡◌, ◌≢◌, ℕ, ◌+◌, ◌<◌, ◌≤◌, List, [], ◌∷◌, ◌++◌, length, refl, sym, ap, ◌∙◌, subst, arith, inl, inr}
use Rattle.std.proofs.lemmas.List.{length-append}
use Rattle.std.specs.List.{AllByRecursion}
use Rattle.lang_tree.specs.Tree.{Tree}
use Rattle.lang_log.specs.Names.{segment_name}
use Rattle.lang_log.specs.Segments.{Segment, IsOneOf, LiesIn, AreNot, AreApart, AreInRow, OneIsNamed, appends_in}
use Rattle.lang_log.specs.Spelling.{AreShort}

pub last_lies : (t : Tree) (before : List Segment) (s : Segment) → AllByRecursion (LiesIn t) (before ++ s ∷ []) → LiesIn t s
last_lies t [] s h = h.0
last_lies t (r ∷ before) s h = last_lies t before s h.1

last_is_not : (node : ℕ) (before : List Segment) (s : Segment) → AreNot node (before ++ s ∷ []) → s.node ≢ node
last_is_not node [] s h = h.0
last_is_not node (r ∷ before) s h = last_is_not node before s h.1

-- the last one is replaced, by one that lies in another tree where all others lie as before
pub with_last : (t u : Tree) (before : List Segment) (s r : Segment) → ((q : Segment) → s.node ≢ q.node → LiesIn t q → LiesIn u q) → LiesIn u r
    → AreApart (before ++ s ∷ []) → AllByRecursion (LiesIn t) (before ++ s ∷ []) → AllByRecursion (LiesIn u) (before ++ r ∷ [])
with_last t u [] s r stays new apart h = (new, tt)
with_last t u (q ∷ before) s r stays new apart h =
    (stays q (last_is_not q.node before s apart.0) h.0, with_last t u before s r stays new apart.1 h.1)

-- one of the same name
pub last_named : (before : List Segment) (s r : Segment) (name : List ℕ) → r.first ≡ s.first → OneIsNamed (before ++ s ∷ []) name
    → OneIsNamed (before ++ r ∷ []) name
last_named [] s r name e (inl h) = inl (h ∙ ap segment_name (sym e))
last_named [] s r name e (inr h) = absurd h
last_named (q ∷ before) s r name e (inl h) = inl h
last_named (q ∷ before) s r name e (inr h) = inr (last_named before s r name e h)

last_not : (node : ℕ) (before : List Segment) (s r : Segment) → r.node ≡ s.node → AreNot node (before ++ s ∷ []) → AreNot node (before ++ r ∷ [])
last_not node [] s r e h = (λ same. h.0 (sym e ∙ same), tt)
last_not node (q ∷ before) s r e h = (h.0, last_not node before s r e h.1)

-- and of the same node
pub last_apart : (before : List Segment) (s r : Segment) → r.node ≡ s.node → AreApart (before ++ s ∷ []) → AreApart (before ++ r ∷ [])
last_apart [] s r e h = (tt, tt)
last_apart (q ∷ before) s r e h = (last_not q.node before s r e h.0, last_apart before s r e h.1)

-- One segment comes behind the others.

pub with_new : (t u : Tree) (segments : List Segment) (r : Segment) → ((q : Segment) → LiesIn t q → LiesIn u q) → LiesIn u r
    → AllByRecursion (LiesIn t) segments → AllByRecursion (LiesIn u) (segments ++ r ∷ [])
with_new t u [] r stays new h = (new, tt)
with_new t u (q ∷ segments) r stays new h = (stays q h.0, with_new t u segments r stays new h.1)

pub still_named : (segments : List Segment) (r : Segment) (name : List ℕ) → OneIsNamed segments name → OneIsNamed (segments ++ r ∷ []) name
still_named [] r name h = absurd h
still_named (q ∷ segments) r name (inl h) = inl h
still_named (q ∷ segments) r name (inr h) = inr (still_named segments r name h)

pub new_named : (segments : List Segment) (r : Segment) (name : List ℕ) → name ≡ segment_name r.first → OneIsNamed (segments ++ r ∷ []) name
new_named [] r name e = inl e
new_named (q ∷ segments) r name e = inr (new_named segments r name e)

not_new : (node : ℕ) (segments : List Segment) (r : Segment) → r.node ≢ node → AreNot node segments → AreNot node (segments ++ r ∷ [])
not_new node [] r apart h = (apart, tt)
not_new node (q ∷ segments) r apart h = (h.0, not_new node segments r apart h.1)

-- a node that none of them has
pub new_apart : (t : Tree) (segments : List Segment) (r : Segment) → ((q : Segment) → LiesIn t q → r.node ≢ q.node)
    → AllByRecursion (LiesIn t) segments → AreApart segments → AreApart (segments ++ r ∷ [])
new_apart t [] r free lies h = (tt, tt)
new_apart t (q ∷ segments) r free lies h = (not_new q.node segments r (free q lies.0) h.0, new_apart t segments r free lies.1 h.1)

-- Segments that a node has nothing to do with lie in a tree without it.
pub without : (t u : Tree) (node : ℕ) (segments : List Segment) → ((q : Segment) → q.node ≢ node → LiesIn t q → LiesIn u q) → AreNot node segments
    → AllByRecursion (LiesIn t) segments → AllByRecursion (LiesIn u) segments
without t u node [] stays apart h = tt
without t u node (q ∷ segments) stays apart h = (stays q apart.0 h.0, without t u node segments stays apart.1 h.1)

-- Short appends.

pub short_append : (xs ys : List (List ℕ)) → AreShort xs → AreShort ys → AreShort (xs ++ ys)
short_append [] ys h k = k
short_append (x ∷ xs) ys h k = (h.0, short_append xs ys h.1 k)

pub short_behind : (xs ys : List (List ℕ)) → AreShort (xs ++ ys) → AreShort ys
short_behind [] ys h = h
short_behind (x ∷ xs) ys h = short_behind xs ys h.1

pub short_before : (xs ys : List (List ℕ)) → AreShort (xs ++ ys) → AreShort xs
short_before [] ys h = tt
short_before (x ∷ xs) ys h = (h.0, short_before xs ys h.1)

-- One of the segments.

pub lies_of : (t : Tree) (s : Segment) (segments : List Segment) → AllByRecursion (LiesIn t) segments → IsOneOf s segments → LiesIn t s
lies_of t s [] lies one = absurd one
lies_of t s (r ∷ rs) lies (inl e) = subst (LiesIn t) (sym e) lies.0
lies_of t s (r ∷ rs) lies (inr later) = lies_of t s rs lies.1 later

pub not_of : (node : ℕ) (s : Segment) (segments : List Segment) → AreNot node segments → IsOneOf s segments → s.node ≢ node
not_of node s [] apart one = absurd one
not_of node s (r ∷ rs) apart (inl e) = λ same. apart.0 (sym (ap (λ s. s.node) e) ∙ same)
not_of node s (r ∷ rs) apart (inr later) = not_of node s rs apart.1 later

-- two of one node are the same
pub one_of_node : (s r : Segment) (segments : List Segment) → AreApart segments → IsOneOf s segments → IsOneOf r segments → s.node ≡ r.node → s ≡ r
one_of_node s r [] apart one other e = absurd one
one_of_node s r (q ∷ qs) apart (inl a) (inl b) e = a ∙ sym b
one_of_node s r (q ∷ qs) apart (inl a) (inr later) e = absurd (not_of q.node r qs apart.0 later (sym e ∙ ap (λ s. s.node) a))
one_of_node s r (q ∷ qs) apart (inr later) (inl b) e = absurd (not_of q.node s qs apart.0 later (e ∙ ap (λ s. s.node) b))
one_of_node s r (q ∷ qs) apart (inr a) (inr b) e = one_of_node s r qs apart.1 a b e

pub short_of : (s : Segment) (segments : List Segment) → AreShort (appends_in segments) → IsOneOf s segments → AreShort s.appends
short_of s [] short one = absurd one
short_of s (r ∷ rs) short (inl e) = subst (λ q. AreShort q.appends) (sym e) (short_before r.appends (appends_in rs) short)
short_of s (r ∷ rs) short (inr later) = short_of s rs (short_behind r.appends (appends_in rs) short) later

-- One of a row.

pub least : (n : ℕ) (s : Segment) (segments : List Segment) → AreInRow n segments → IsOneOf s segments → n ≤ s.first
least n s [] row one = absurd one
least n s (r ∷ rs) row (inl e) = omega (arith, row.0, ap (λ s. s.first) e)
least n s (r ∷ rs) row (inr later) = omega (arith, least (n + length r.appends) s rs row.1 later)

pub ends : (n : ℕ) (s : Segment) (segments : List Segment) → AreInRow n segments → IsOneOf s segments
    → s.first + length s.appends ≤ n + length (appends_in segments)
ends n s [] row one = absurd one
ends n s (r ∷ rs) row (inl e) =
    omega (arith, row.0, ap (λ s. s.first) e, ap (λ s. length s.appends) e, length-append r.appends (appends_in rs))
ends n s (r ∷ rs) row (inr later) = omega (arith, ends (n + length r.appends) s rs row.1 later, length-append r.appends (appends_in rs))

-- A segment that comes directly behind another one.
pub record IsBehind (s : Segment) (segments : List Segment) (first : ℕ) : Type 0 where
  pub next : Segment
  pub one : IsOneOf next segments
  pub begins : next.first ≡ s.first + length s.appends
  pub upto : next.first ≤ first
  pub apart : next.node ≢ s.node

-- where one begins later, one comes directly behind, no later than that one
pub followed : (n : ℕ) (s r : Segment) (segments : List Segment) → AreInRow n segments → AreApart segments → IsOneOf s segments → IsOneOf r segments
    → s.first < r.first → IsBehind s segments r.first
followed n s r [] row apart one other later = absurd one
followed n s r (q ∷ qs) row apart (inl a) (inl b) later = absurd (omega (arith, later, ap (λ s. s.first) a, ap (λ s. s.first) b))
followed n s r (q ∷ []) row apart (inl a) (inr none) later = absurd none
followed n s r (q ∷ (p ∷ ps)) row apart (inl a) (inr other) later = record {
  next = p;
  one = inr (inl refl);
  begins = omega (arith, row.0, row.1.0, ap (λ s. s.first) a, ap (λ s. length s.appends) a);
  upto = omega (arith, row.1.0, least (n + length q.appends) r (p ∷ ps) row.1 other);
  apart = λ same. apart.0.0 (same ∙ ap (λ s. s.node) a);
}
followed n s r (q ∷ qs) row apart (inr one) (inl b) later =
    absurd (omega (arith, later, row.0, ap (λ s. s.first) b, least (n + length q.appends) s qs row.1 one))
followed n s r (q ∷ qs) row apart (inr one) (inr other) later =
    let behind = followed (n + length q.appends) s r qs row.1 apart.1 one other later in
    record { next = behind.next; one = inr behind.one; begins = behind.begins; upto = behind.upto; apart = behind.apart }
