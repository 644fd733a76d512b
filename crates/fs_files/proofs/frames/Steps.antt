-- The ways in which a call changes one node: its content alone, more or fewer blocks, its links, a new node, and one that is dropped.
use Rattle.std.proofs.Common.{◌≡◌, ◌≢◌, ◌⊎◌, inl, inr, ℕ, ◌+◌, ◌-◌, ◌%◌, ◌<◌, ◌≤◌, Bool, true, false, not, ◌&&◌, ◌||◌, IsTrue, List, [], ◌++◌, length, take, drop, get_or, slice_get, Option, Some, None, option_map, All, refl, sym, ap, subst, ◌∙◌, arith}
use Rattle.std.specs.List.{AllPairs}
use Rattle.std.proofs.lemmas.Bool.{cases_lt, false≢true, or_left, false_from_ne_true}
use Rattle.std.proofs.lemmas.Option.{none-some, same_Some, slice_get-get_or, slice_get_within, get_or_from_slice_get}
use Rattle.std.proofs.lemmas.List.{length-append, get_or-append_right, get_or_append_left, append-nil, take_all, drop_all}
use Rattle.std.proofs.lemmas.Bool.Decides.{nat_tests}
use Rattle.base_types.specs.Seal.{Blocks}
use Rattle.base_types.specs.Runs.{run_places}
use Rattle.base_types.specs.declared.layout.Layout.{Layout}
use Rattle.layout_geometry.specs.Geometry.{Geometry, table_start, data_start}
use Rattle.layout_bytes.specs.declared.node.Node.{Node}
use Rattle.layout_bytes.specs.declared.node.NodeKind.TheVariants.{Dir}
use Rattle.layout_bytes.specs.Bytes.{are_zeros}
use Rattle.layout_bytes.specs.Node.{content_of}
use Rattle.engine_blocks.specs.Running.{has}
use Rattle.engine_blocks.specs.Puts.{IsData}
use Rattle.crash_stands.specs.Files.{FileNode, Files, joined, content, past_content, used_node, file_of, files_of}
use Rattle.fs_files.specs.Calls.{IsWithFile, with_bytes, with_links}
use Rattle.fs_files.specs.Frames.{HasNewNode, ChangesNode}
use Rattle.fs_files.specs.Sound.{AreSoundBy}
use Rattle.fs_files.proofs.frames.Cells.{when_true, is_number, same_node}
use Rattle.fs_files.proofs.frames.Places.{place_of, has_place, used_within, used_data, used_marked, used_whole, joined_same, all_of}
use Rattle.fs_files.proofs.frames.Frames.{node_changed_sound, node_changed_files}
use Rattle.fs_files.proofs.drafts.Lists.{has_append, each_of}

-- What follows of a node that changed.

pub both : (g : Geometry) (marks new_marks : ℕ → Bool) (m n : Blocks) (k : ℕ) (old new : Option Node) → AreSoundBy g marks m → ChangesNode g marks new_marks m n k old new
    → AreSoundBy g new_marks n × IsWithFile (files_of g m) (files_of g n) k (option_map (file_of g.layout n) new)
both g marks new_marks m n k old new sound ch = (node_changed_sound g marks new_marks m n k old new sound ch, node_changed_files g marks new_marks m n k old new sound ch)

pub file_is : (old new : Files) (k : ℕ) (x y : Option FileNode) → x ≡ y → IsWithFile old new k x → IsWithFile old new k y
file_is old new k x y e is = record { own = is.own ∙ e; others = is.others }

-- a node whose kind and links are as before, with other bytes
pub file_bytes : (l : Layout) (m n : Blocks) (old new : Node) (x : FileNode) (bytes : List ℕ) → x ≡ file_of l m old → new.kind ≡ old.kind → new.links ≡ old.links → content l n new ≡ bytes
    → ◌≡◌ {A = Option FileNode} (Some (file_of l n new)) (Some (with_bytes x bytes))
file_bytes l m n old new x bytes is kind links same = grind (arith, nat_tests)

-- Lists of places.

-- the places of a node are there once
pub used_once : (g : Geometry) (marks : ℕ → Bool) (m : Blocks) (k : ℕ) (node : Node) → AreSoundBy g marks m → used_node g m k ≡ Some node → AllPairs (λ a b. a ≢ b) (run_places node.runs)
used_once g marks m k node sound e i j d lt within same =
    let places = run_places node.runs in
    let at_i : slice_get (run_places node.runs) i ≡ Some (get_or (run_places node.runs) i d) = slice_get-get_or (run_places node.runs) i d (omega (arith, lt, within)) in
    let at_j : slice_get (run_places node.runs) j ≡ Some (get_or (run_places node.runs) i d) = slice_get-get_or (run_places node.runs) j d within ∙ ap Some (sym same) in
    let r = sound.own k k i j (get_or (run_places node.runs) i d) (record { node = node; is_node = e; place = at_i }) (record { node = node; is_node = e; place = at_j }) in
    absurd (omega (arith, lt, r.1))

-- two lists that share no number, each with none twice
pub once_append : (xs ys : List ℕ) → AllPairs (λ a b. a ≢ b) xs → AllPairs (λ a b. a ≢ b) ys → ((b : ℕ) → has xs b ≡ true → has ys b ≡ true → ⊥) → AllPairs (λ a b. a ≢ b) (xs ++ ys)
once_append xs ys first second apart i j d lt within = by (cases_lt i (length xs)) (cases_lt j (length xs))
  where
    long : length (xs ++ ys) ≡ length xs + length ys
    long = length-append xs ys

    left : (p : ℕ) → p < length xs → get_or (xs ++ ys) p d ≡ get_or xs p d
    left p low = get_or_append_left xs ys d p low

    right : (p : ℕ) → length xs ≤ p → get_or (xs ++ ys) p d ≡ get_or ys (p - length xs) d
    right p high = get_or-append_right xs ys (length xs) p d refl high

    by : (i < length xs) ⊎ (length xs ≤ i) → (j < length xs) ⊎ (length xs ≤ j) → get_or (xs ++ ys) i d ≢ get_or (xs ++ ys) j d
    by (inl a) (inl b) e = first i j d lt b (sym (left i a) ∙ e ∙ left j b)
    by (inl a) (inr b) e =
        let here = has_place xs i (get_or xs i d) (slice_get-get_or xs i d a) in
        let there = has_place ys (j - length xs) (get_or ys (j - length xs) d) (slice_get-get_or ys (j - length xs) d (omega (arith, b, within, long))) in
        apart (get_or xs i d) here (ap (has ys) (sym (left i a) ∙ e ∙ right j b) ∙ there)
    by (inr a) (inl b) e = absurd (omega (arith, a, b, lt))
    by (inr a) (inr b) e = second (i - length xs) (j - length xs) d (omega (arith, a, b, lt)) (omega (arith, b, within, long)) (sym (right i a) ∙ e ∙ right j b)

-- The node table.

-- where the table is as before, so is the node
pub node_kept : (g : Geometry) (marks : ℕ → Bool) (m n : Blocks) (k : ℕ) → g.i % 4 ≡ 0 → 1 ≤ k → k ≤ g.i → AreSoundBy g marks m → ((b : ℕ) → table_start g ≤ b → b < data_start g → n b ≡ m b)
    → HasNewNode g m n k (used_node g m k)
node_kept g marks m n k whole from upto sound same = grind (arith, nat_tests, same_node, when_true, is_number)

-- One node's content changed, in the blocks that it has.
pub content_changes : (g : Geometry) (marks new_marks : ℕ → Bool) (m n : Blocks) (k : ℕ) (node : Node) → g.i % 4 ≡ 0 → AreSoundBy g marks m → used_node g m k ≡ Some node
    → ((b : ℕ) → table_start g ≤ b → b < data_start g → n b ≡ m b)
    → ((b : ℕ) → data_start g ≤ b → b < g.n → has (run_places node.runs) b ≡ false → n b ≡ m b)
    → ((b : ℕ) → data_start g ≤ b → b < g.n → new_marks b ≡ marks b)
    → All (λ b. length (n b) ≡ 1024) (run_places node.runs)
    → (node.kind ≡ Dir → IsTrue (are_zeros (past_content g.layout n node)))
    → ChangesNode g marks new_marks m n k (Some node) (Some node)
content_changes g marks new_marks m n k node even sound is table elsewhere same whole tail =
    let at = used_within g m k node is in
    let kept = node_kept g marks m n k even at.0 at.1 sound table in
    record {
      from = at.0;
      upto = at.1;
      was = is;
      node = record { own = kept.own ∙ is; free = λ none. absurd (none-some node (sym none)); others = kept.others; table = kept.table };
      elsewhere = λ b low high old new. elsewhere b low high old;
      marked = λ b low high. same b low high ∙ self (marks b) (has (run_places node.runs) b) (used_marked g marks m k node sound is b);
      fresh = λ b now old. absurd (false≢true (sym old ∙ now));
      once = used_once g marks m k node sound is;
      inside = all_of (IsData g) (run_places node.runs) (used_data g m k node is);
      whole = whole;
      tail = λ now e dir. let back : node ≡ now = same_Some node now e in
          subst (λ (x : Node). IsTrue (are_zeros (past_content g.layout n x))) back (tail (ap (λ (x : Node). x.kind) back ∙ dir));
    }
  where
    self : (was its : Bool) → (its ≡ true → was ≡ true) → was ≡ (its || (was && not its))
    self was true e = e refl
    self true false e = refl
    self false false e = refl

-- One node got new blocks, which no node had, in the stead of some of its own or besides them: it may have another size.
pub node_renewed : (g : Geometry) (live now : ℕ → Bool) (m n : Blocks) (k : ℕ) (old new : Node) (more : List ℕ) → AreSoundBy g live m → used_node g m k ≡ Some old → HasNewNode g m n k (Some new)
    → ((b : ℕ) → has (run_places new.runs) b ≡ true → (has (run_places old.runs) b ≡ true) ⊎ (has more b ≡ true)) → ((b : ℕ) → has more b ≡ true → has (run_places new.runs) b ≡ true)
    → AllPairs (λ a b. a ≢ b) (run_places new.runs) → All (IsData g) more → All (λ b. live b ≡ false) more
    → ((b : ℕ) → data_start g ≤ b → b < g.n → has (run_places old.runs) b ≡ false → has more b ≡ false → n b ≡ m b)
    → ((b : ℕ) → data_start g ≤ b → b < g.n → now b ≡ (has (run_places new.runs) b || (live b && not (has (run_places old.runs) b))))
    → All (λ b. length (n b) ≡ 1024) (run_places new.runs)
    → (new.kind ≡ Dir → IsTrue (are_zeros (past_content g.layout n new)))
    → ChangesNode g live now m n k (Some old) (Some new)
node_renewed g live now m n k old new more sound is there either came once inside unmarked elsewhere marked whole tail =
    let at = used_within g m k old is in
    record {
      from = at.0;
      upto = at.1;
      was = is;
      node = there;
      elsewhere = λ b low high not_old not_new. elsewhere b low high not_old (false_from_ne_true (has more b) (λ mine. false≢true (sym not_new ∙ came b mine)));
      marked = marked;
      fresh = λ b mine other. each_of (λ c. live c ≡ false) more unmarked b (in_more b other (either b mine));
      once = once;
      inside = all_of (IsData g) (run_places new.runs) (λ b mine. data_of b (either b mine));
      whole = whole;
      tail = λ x e dir. let back : new ≡ x = same_Some new x e in
          subst (λ (y : Node). IsTrue (are_zeros (past_content g.layout n y))) back (tail (ap (λ (y : Node). y.kind) back ∙ dir));
    }
  where
    in_more : (b : ℕ) → has (run_places old.runs) b ≡ false → (has (run_places old.runs) b ≡ true) ⊎ (has more b ≡ true) → has more b ≡ true
    in_more b other (inl first) = absurd (false≢true (sym other ∙ first))
    in_more b other (inr second) = second

    data_of : (b : ℕ) → (has (run_places old.runs) b ≡ true) ⊎ (has more b ≡ true) → IsData g b
    data_of b (inl first) = used_data g m k old is b first
    data_of b (inr second) = each_of (IsData g) more inside b second

-- One node gave up all its blocks but the first ones, perhaps none: it has another size, or other links.
pub node_cut : (g : Geometry) (marks new_marks : ℕ → Bool) (m n : Blocks) (k : ℕ) (old new : Node) (kept gone : List ℕ) → AreSoundBy g marks m → used_node g m k ≡ Some old → HasNewNode g m n k (Some new)
    → run_places old.runs ≡ kept ++ gone → run_places new.runs ≡ kept
    → ((b : ℕ) → data_start g ≤ b → b < g.n → has (run_places old.runs) b ≡ false → n b ≡ m b)
    → ((b : ℕ) → data_start g ≤ b → b < g.n → new_marks b ≡ (marks b && not (has gone b)))
    → All (λ b. length (n b) ≡ 1024) (run_places new.runs)
    → (new.kind ≡ Dir → IsTrue (are_zeros (past_content g.layout n new)))
    → ChangesNode g marks new_marks m n k (Some old) (Some new)
node_cut g marks new_marks m n k old new kept gone sound is now parts places elsewhere marked whole tail =
    let at = used_within g m k old is in
    record {
      from = at.0;
      upto = at.1;
      was = is;
      node = now;
      elsewhere = λ b low high not_old not_new. elsewhere b low high not_old;
      marked = λ b low high. marked b low high
          ∙ cut (has kept b) (has gone b) (marks b) (λ e. used_marked g marks m k old sound is b (has_old b ∙ or_left (has kept b) (has gone b) e)) (apart b)
          ∙ λ i. (sym (has_new b) i || (marks b && not (sym (has_old b) i)));
      fresh = λ b mine other. absurd (false≢true (sym other ∙ has_old b ∙ or_left (has kept b) (has gone b) (sym (has_new b) ∙ mine)));
      once = λ i j d lt within e.
          let low : j < length kept = subst (λ xs. j < length xs) places within in
          used_once g marks m k old sound is i j d lt (subst (λ xs. j < length xs) (sym parts) (omega (arith, low, length-append kept gone)))
          (at_old i d (omega (arith, lt, low)) ∙ e ∙ sym (at_old j d low));
      inside = all_of (IsData g) (run_places new.runs) (λ b mine. used_data g m k old is b (has_old b ∙ or_left (has kept b) (has gone b) (sym (has_new b) ∙ mine)));
      whole = whole;
      tail = λ x e dir. let back : new ≡ x = same_Some new x e in
          subst (λ (y : Node). IsTrue (are_zeros (past_content g.layout n y))) back (tail (ap (λ (y : Node). y.kind) back ∙ dir));
    }
  where
    has_old : (b : ℕ) → has (run_places old.runs) b ≡ (has kept b || has gone b)
    has_old b = ap (λ xs. has xs b) parts ∙ has_append kept gone b

    has_new : (b : ℕ) → has (run_places new.runs) b ≡ has kept b
    has_new b = ap (λ xs. has xs b) places

    at_old : (i : ℕ) (d : ℕ) → i < length kept → get_or (run_places old.runs) i d ≡ get_or (run_places new.runs) i d
    at_old i d low = ap (λ xs. get_or xs i d) parts ∙ get_or_append_left kept gone d i low ∙ ap (λ xs. get_or xs i d) (sym places)

    -- a number of the first ones isn't among those given up
    apart : (b : ℕ) → has kept b ≡ true → has gone b ≡ true → ⊥
    apart b first second =
        let r = place_of kept b first in
        let q = place_of gone b second in
        let low = slice_get_within kept r.0 b r.1 in
        let high = slice_get_within gone q.0 b q.1 in
        let a : get_or (run_places old.runs) r.0 b ≡ b = ap (λ xs. get_or xs r.0 b) parts ∙ get_or_append_left kept gone b r.0 low ∙ get_or_from_slice_get kept r.0 b b r.1 in
        let c : get_or (run_places old.runs) (length kept + q.0) b ≡ b = ap (λ xs. get_or xs (length kept + q.0) b) parts ∙ get_or-append_right kept gone (length kept) (length kept + q.0) b refl (omega arith)
        ∙ ap (λ p. get_or gone p b) {x = length kept + q.0 - length kept} {y = q.0} (omega arith) ∙ get_or_from_slice_get gone q.0 b b q.1 in
        used_once g marks m k old sound is r.0 (length kept + q.0) b (omega (arith, low)) (subst (λ xs. length kept + q.0 < length xs) (sym parts) (omega (arith, high, length-append kept gone))) (a ∙ sym c)

    cut : (first gave was : Bool) → (first ≡ true → was ≡ true) → (first ≡ true → gave ≡ true → ⊥) → (was && not gave) ≡ (first || (was && not (first || gave)))
    cut true true was e no_both = absurd (no_both refl refl)
    cut true false true e no_both = refl
    cut true false false e no_both = e refl
    cut false gave was e no_both = refl

-- One node became another with the same blocks, which are as before: another size within them, or other links.
pub node_same_places : (g : Geometry) (marks new_marks : ℕ → Bool) (m n : Blocks) (k : ℕ) (old new : Node) → AreSoundBy g marks m → used_node g m k ≡ Some old → HasNewNode g m n k (Some new)
    → run_places new.runs ≡ run_places old.runs
    → ((b : ℕ) → data_start g ≤ b → b < g.n → n b ≡ m b)
    → ((b : ℕ) → data_start g ≤ b → b < g.n → new_marks b ≡ marks b)
    → (new.kind ≡ Dir → IsTrue (are_zeros (past_content g.layout n new)))
    → ChangesNode g marks new_marks m n k (Some old) (Some new)
node_same_places g marks new_marks m n k old new sound is now places same marked tail =
    node_cut g marks new_marks m n k old new (run_places old.runs) [] sound is now (sym (append-nil (run_places old.runs))) places
    (λ b low high isnt. same b low high)
    (λ b low high. marked b low high ∙ kept (marks b))
    (all_of (λ b. length (n b) ≡ 1024) (run_places new.runs) (λ b mine.
    let old_one : has (run_places old.runs) b ≡ true = ap (λ xs. has xs b) (sym places) ∙ mine in
    let at = used_data g m k old is b old_one in
    ap length (same b at.from at.below) ∙ used_whole g marks m k old sound is b old_one))
    tail
  where
    kept : (was : Bool) → was ≡ (was && not false)
    kept true = refl
    kept false = refl

-- One node's links changed alone.
pub links_change : (g : Geometry) (marks new_marks : ℕ → Bool) (m n : Blocks) (k : ℕ) (node : Node) (links : ℕ) → AreSoundBy g marks m → used_node g m k ≡ Some node
    → HasNewNode g m n k (Some (record node { links = links }))
    → ((b : ℕ) → data_start g ≤ b → b < g.n → n b ≡ m b)
    → ((b : ℕ) → data_start g ≤ b → b < g.n → new_marks b ≡ marks b)
    → ChangesNode g marks new_marks m n k (Some node) (Some (record node { links = links }))
links_change g marks new_marks m n k node links sound is now same marked =
    node_same_places g marks new_marks m n k node (record node { links = links }) sound is now refl same marked
    (λ dir. ap (λ xs. are_zeros (drop (content_of g.layout node.kind node.size) xs)) (joined_same m n (run_places node.runs) (λ b mine. let at = used_data g m k node is b mine in same b at.from at.below)) ∙ sound.tail k node is dir)

-- so its file has these links, and the bytes that it had
pub links_file : (g : Geometry) (m n : Blocks) (k : ℕ) (node : Node) (links : ℕ) (x : FileNode) → used_node g m k ≡ Some node → x ≡ file_of g.layout m node
    → ((b : ℕ) → data_start g ≤ b → b < g.n → n b ≡ m b)
    → ◌≡◌ {A = Option FileNode} (Some (file_of g.layout n (record node { links = links }))) (Some (with_links x links))
links_file g m n k node links x is file same = grind (arith, nat_tests, joined_same, used_data)

-- A node that wasn't in use is, without blocks.
pub node_made : (g : Geometry) (marks new_marks : ℕ → Bool) (m n : Blocks) (k : ℕ) (new : Node) → 1 ≤ k → k ≤ g.i → used_node g m k ≡ None → HasNewNode g m n k (Some new) → new.runs ≡ []
    → ((b : ℕ) → data_start g ≤ b → b < g.n → n b ≡ m b)
    → ((b : ℕ) → data_start g ≤ b → b < g.n → new_marks b ≡ marks b)
    → ChangesNode g marks new_marks m n k None (Some new)
node_made g marks new_marks m n k new from upto out now none same marked = grind (arith, nat_tests, drop_all)

-- its file has no bytes
pub made_file : (l : Layout) (n : Blocks) (new : Node) → new.runs ≡ [] → ◌≡◌ {A = Option FileNode} (Some (file_of l n new)) (Some (record { kind = new.kind; links = new.links; bytes = [] }))
made_file l n new none = ap (λ xs. Some (record { kind = new.kind; links = new.links; bytes = xs })) (ap (λ rs. take (content_of l new.kind new.size) (joined n (run_places rs))) none ∙ take_all (content_of l new.kind new.size) [] (omega arith))

-- A node isn't in use any more, and its blocks aren't marked.
pub node_dropped : (g : Geometry) (marks new_marks : ℕ → Bool) (m n : Blocks) (k : ℕ) (old : Node) → used_node g m k ≡ Some old → HasNewNode g m n k None
    → ((b : ℕ) → data_start g ≤ b → b < g.n → has (run_places old.runs) b ≡ false → n b ≡ m b)
    → ((b : ℕ) → data_start g ≤ b → b < g.n → new_marks b ≡ (marks b && not (has (run_places old.runs) b)))
    → ChangesNode g marks new_marks m n k (Some old) None
node_dropped g marks new_marks m n k old is now elsewhere marked = grind (arith, nat_tests, used_within)
