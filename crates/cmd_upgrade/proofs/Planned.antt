-- What a plan says as paths come to it: at first of the root alone, and then with one path more.
use Rattle.std.proofs.Common.{◌≡◌, ◌≢◌, ◌⊎◌, inl, inr, ℕ, zero, suc, ◌+◌, ◌*◌, ◌-◌, ◌==◌, ◌||◌, Bool, true, false, cond, true≢false, List, [], ◌∷◌, ◌++◌, length, map, Option, Some, None, refl, sym, ap, ◌∙◌, subst, arith, if◌then◌else◌, append-nil, eqb-true}
use Rattle.std.proofs.lemmas.Bool.{cases_eq, eq-eqb, ne_eqb}
use Rattle.std.proofs.lemmas.List.{map-append}
use Rattle.std.proofs.lemmas.List.Elements.{All-cons, All-nil, All-push, All-same}
use Rattle.std.proofs.lemmas.Option.{none-some, same_Some}
use Rattle.std.specs.Prelude.{◌^◌, is_some, min, option_and_then, reverse}
use Rattle.std.specs.BTreeMap as btree
use Rattle.std.specs.BTreeMap.{BTreeMap, is_at}
use Rattle.std.specs.Cmp.{nat_cmp_total}
use Rattle.std.specs.FinMap.{empty, entries, get, get-empty, get-insert, insert, len, len-empty, len-entries}
use Rattle.std.specs.List.{All, flat_map}
use Rattle.std.specs.Map.{lookup}
use Rattle.std.specs.Ordering.{eq_by_cmp, nat_cmp}
use Rattle.base_types.specs.declared.layout.Layout.{Layout}
use Rattle.lang_tree.specs.declared.command.Kind.TheVariants.{Dir as DirKind, File as FileKind}
use Rattle.lang_tree.specs.declared.command.Refusal.TheVariants.{NotFound}
use Rattle.lang_tree.specs.declared.command.Reply.{Reply}
use Rattle.lang_tree.specs.declared.command.Reply.TheVariants.{Refused, Stat as StatReply}
use Rattle.lang_tree.specs.declared.command.Stat.{Stat as Found}
use Rattle.lang_tree.specs.Figures.{blocks_for, content_blocks, file_blocks}
use Rattle.lang_tree.specs.Names.{names_in, path_count}
use Rattle.lang_tree.specs.Step.{stat, stat_by, stat_of}
use Rattle.lang_tree.specs.Tree.{Dir, File, IsSound, Nodes, Thing, Tree}
use Rattle.lang_tree.specs.Walk.{bytes_in, content, is_dir, thing_at}
use Rattle.cmd_upgrade.specs.declared.plan.Entry.{Entry}
use Rattle.cmd_upgrade.specs.declared.plan.Plan.{Plan}
use Rattle.cmd_upgrade.specs.Plans.{Adds, AreMet, HasMet, IsEntry, IsPlanOf, Meets, dirs_below, entry_blocks, is_dir_kind, made_below, place_of}
use Rattle.cmd_upgrade.proofs.Counted.{count_more, files_more, or_at, place_if, place_push}
use Rattle.cmd_upgrade.proofs.Walking.{from_root, no_length}

-- Numbers as keys.

tied : (a b : ℕ) → a ≡ b → eq_by_cmp nat_cmp a b ≡ true
tied a b e = grind arith

apart : (a b : ℕ) → (a ≡ b → ⊥) → eq_by_cmp nat_cmp a b ≡ false
apart a b n = grind arith

same_key : (n k : ℕ) → eq_by_cmp nat_cmp n k ≡ (k == n)
same_key n k = by (cases_eq n k)
  where
    by : (n ≡ k) ⊎ (n ≡ k → ⊥) → eq_by_cmp nat_cmp n k ≡ (k == n)
    by (inl e) = tied n k e ∙ sym (eq-eqb k n (sym e))
    by (inr other) = apart n k other ∙ sym (ne_eqb k n (λ e. other (sym e)))

pub same_number : (n k : ℕ) → (n == k) ≡ (k == n)
same_number n k = by (cases_eq n k)
  where
    by : (n ≡ k) ⊎ (n ≡ k → ⊥) → (n == k) ≡ (k == n)
    by (inl e) = eq-eqb n k e ∙ sym (eq-eqb k n (sym e))
    by (inr other) = ne_eqb n k other ∙ sym (ne_eqb k n (λ e. other (sym e)))

node_put : (m : Nodes) (k : ℕ) (x : Thing) (n : ℕ) → get (insert m k x) n ≡ cond (k == n) (Some x) (get m n)
node_put m k x n = get-insert nat_cmp_total m k x n ∙ ap (λ (b : Bool). cond b (Some x) (get m n)) (same_key n k)

or_none : (o : Option ℕ) → or_at o None ≡ o
or_none None = refl
or_none (Some i) = refl

or_some : (o : Option ℕ) (k : ℕ) → is_some (or_at o (Some k)) ≡ true
or_some None k = refl
or_some (Some i) k = refl

or_true : (b : Bool) → (b || true) ≡ true
or_true true = refl
or_true false = refl

not_some : {A : Type 0} (o : Option A) → is_some o ≡ false → o ≡ None
not_some None e = refl
not_some (Some x) e = absurd (true≢false e)

min_more : (a b m : ℕ) → min (min a m + b) m ≡ min (a + b) m
min_more a b m = omega arith

-- The root alone.

abbrev root_nodes : Nodes
root_nodes = insert empty 1 Dir

nothing_there : file_blocks (entries (empty {X = Thing} {R = nat_cmp})) ≡ 0
nothing_there = ap file_blocks (no_length (entries (empty {X = Thing} {R = nat_cmp})) (sym (len-entries (empty {X = Thing} {R = nat_cmp})) ∙ len-empty nat_cmp Thing))

module _ (limit : ℕ) (t : Tree) (ok : IsSound limit t) where
  root_some : (n : ℕ) (x : Thing) → get root_nodes n ≡ Some x → get t.nodes n ≡ Some x
  root_some n x is = by (1 == n) refl (sym (node_put empty 1 Dir n) ∙ is)
    where
      by : (b : Bool) → (1 == n) ≡ b → cond b (Some Dir) (get {R = nat_cmp} empty n) ≡ Some x → get t.nodes n ≡ Some x
      by true e f = ap (get t.nodes) (sym (eqb-true 1 n e)) ∙ ok.root_dir ∙ f
      by false e f = absurd (none-some x (sym (get-empty nat_cmp n) ∙ f))

  root_which : (n : ℕ) → is_some (get root_nodes n) ≡ (n == 1 || is_some (place_of n []))
  root_which n = ap is_some (node_put empty 1 Dir n) ∙ by (1 == n) refl
    where
      by : (b : Bool) → (1 == n) ≡ b → is_some (cond b (Some Dir) (get {R = nat_cmp} empty n)) ≡ (n == 1 || is_some (place_of n []))
      by true e = sym (ap (λ (b : Bool). b || is_some (place_of n [])) (same_number n 1 ∙ e))
      by false e = ap is_some (get-empty nat_cmp n) ∙ sym (ap (λ (b : Bool). b || is_some (place_of n [])) (same_number n 1 ∙ e))

  root_is_dir : is_dir (thing_at t []) ≡ true
  root_is_dir = ap (λ o. is_dir (option_and_then (λ n. get t.nodes n) o)) ok.root ∙ ap is_dir ok.root_dir

  pub new_plan : (l : Layout) (p : Plan) → p.entries.items ≡ [] → p.firsts.entries ≡ [] → p.blocks ≡ 0 → IsPlanOf l t ([] ∷ []) p
  new_plan l p none firsts empty_blocks = record {
    paths = sym (from_root t) ∙ sym (append-nil (made_below t [])) ∙ ap (λ (es : List Entry). map (λ e. e.path) es ++ flat_map (made_below t) (reverse ([] ∷ []))) (sym none);
    dirs = All-cons (λ q. is_dir (thing_at t q) ≡ true) [] [] root_is_dir (All-nil (λ q. is_dir (thing_at t q) ≡ true));
    each = All-same (IsEntry t) p.entries.items [] none (All-nil (IsEntry t));
    firsts = λ n. ap (λ (es : List (ℕ × ℕ)). lookup (is_at (nat_cmp n)) es) firsts ∙ sym (ap (place_of n) none);
    visited = 0;
    met = record {
      met = root_nodes;
      are_met = record { some = root_some; which = λ n. root_which n ∙ ap (λ (es : List Entry). n == 1 || is_some (place_of n es)) (sym none) };
      count = omega (arith, ap (λ (es : List (ℕ × ℕ)). length es) firsts, count_more empty 1 Dir (get-empty nat_cmp 1), len-empty nat_cmp Thing);
      blocks = omega (arith, empty_blocks, files_more empty 1 Dir (get-empty nat_cmp 1), nothing_there);
    };
    all = omega arith;
  }

-- One path more.

stat_same : (a b : Found) → StatReply a ≡ StatReply b → a ≡ b
stat_same a b e = cc

pub entry_is : (t : Tree) (found : Found) (e : Entry) → e.number ≡ found.number → e.is_dir ≡ is_dir_kind found.kind → e.size ≡ found.size → stat t e.path ≡ StatReply found → IsEntry t e
entry_is t found e number dir size is = by (get t.names e.path) refl is
  where
    of : (n : ℕ) → get t.names e.path ≡ Some n → (x : Option Thing) → get t.nodes n ≡ x → stat_of t e.path n x ≡ StatReply found → IsEntry t e
    of n at None there f = let other : Refused NotFound ≡ StatReply found = f in absurd cc
    of n at (Some Dir) there f =
        let same = stat_same (record { kind = DirKind; number = n; size = 64 * length (names_in t.names e.path); links = 1 }) found f in
        let thing : thing_at t e.path ≡ Some Dir = ap (option_and_then (λ k. get t.nodes k)) at ∙ there in
        let is_one : e.is_dir ≡ true = dir ∙ ap (λ (s : Found). is_dir_kind s.kind) (sym same) in
        record {
          number = at ∙ ap Some (ap (λ (s : Found). s.number) same ∙ sym number);
          dir = is_one ∙ sym (ap is_dir thing);
          size = λ file. absurd (true≢false (sym is_one ∙ file));
        }
    of n at (Some (File bytes)) there f =
        let same = stat_same (record { kind = FileKind; number = n; size = length bytes; links = path_count t.names n }) found f in
        let thing : thing_at t e.path ≡ Some (File bytes) = ap (option_and_then (λ k. get t.nodes k)) at ∙ there in
        let is_none : e.is_dir ≡ false = dir ∙ ap (λ (s : Found). is_dir_kind s.kind) (sym same) in
        record {
          number = at ∙ ap Some (ap (λ (s : Found). s.number) same ∙ sym number);
          dir = is_none ∙ sym (ap is_dir thing);
          size = λ file. size ∙ ap (λ (s : Found). s.size) (sym same) ∙ sym (ap (λ (o : Option Thing). length (bytes_in o)) thing);
        }

    by : (o : Option ℕ) → get t.names e.path ≡ o → stat_by t e.path o ≡ StatReply found → IsEntry t e
    by None at f = let other : Refused NotFound ≡ StatReply found = f in absurd cc
    by (Some n) at f = of n at (get t.nodes n) refl f

-- the blocks of an entry are those of its node
blocks_are : (t : Tree) (e : Entry) → IsEntry t e → (x : Thing) → get t.nodes e.number ≡ Some x → entry_blocks e ≡ content_blocks x
blocks_are t e is Dir there =
    ap (λ (b : Bool). if b then 0 else blocks_for e.size) (is.dir ∙ ap (λ o. is_dir (option_and_then (λ k. get t.nodes k) o)) is.number ∙ ap is_dir there)
blocks_are t e is (File bytes) there =
    let thing : thing_at t e.path ≡ Some (File bytes) = ap (option_and_then (λ k. get t.nodes k)) is.number ∙ there in
    let none : e.is_dir ≡ false = is.dir ∙ ap is_dir thing in
    ap (λ (b : Bool). if b then 0 else blocks_for e.size) none ∙ ap blocks_for (is.size none ∙ ap (λ (o : Option Thing). length (bytes_in o)) thing)

-- what is said of first places
abbrev pub KnowsFirsts : Plan → List Entry → Type 0
KnowsFirsts p es = (n : ℕ) → btree.get nat_cmp p.firsts n ≡ place_of n es

module _ (old mid : Plan) (e : Entry) (m : Meets old e mid) (known : KnowsFirsts old old.entries.items) where
  firsts_more : KnowsFirsts mid (old.entries.items ++ e ∷ [])
  firsts_more n = by (btree.get nat_cmp old.firsts e.number) refl ∙ sym (place_push n old.entries.items e)
    where
      place : Option ℕ
      place = place_of n old.entries.items

      here : e.number ≡ n → place ≡ btree.get nat_cmp old.firsts e.number
      here same = sym (known n) ∙ ap (btree.get nat_cmp old.firsts) (sym same)

      there : (i : ℕ) → btree.get nat_cmp old.firsts e.number ≡ Some i → (b : Bool) → (e.number == n) ≡ b → place ≡ or_at place (place_if b (length old.entries.items))
      there i at true same =
          let is : place ≡ Some i = here (eqb-true e.number n same) ∙ at in
          is ∙ sym (ap (λ (o : Option ℕ). or_at o (Some (length old.entries.items))) is)
      there i at false same = sym (or_none place)

      fresh : btree.get nat_cmp old.firsts e.number ≡ None → (b : Bool) → (e.number == n) ≡ b
          → (if b then Some (length old.entries.items) else btree.get nat_cmp old.firsts n) ≡ or_at place (place_if b (length old.entries.items))
      fresh at true same = sym (ap (λ (o : Option ℕ). or_at o (Some (length old.entries.items))) (here (eqb-true e.number n same) ∙ at))
      fresh at false same = known n ∙ sym (or_none place)

      by : (o : Option ℕ) → btree.get nat_cmp old.firsts e.number ≡ o → btree.get nat_cmp mid.firsts n ≡ or_at place (place_if (e.number == n) (length old.entries.items))
      by (Some i) at = ap (λ (p : Plan). btree.get nat_cmp p.firsts n) (m.there i at) ∙ known n ∙ there i at (e.number == n) refl
      by None at = m.first at n ∙ fresh at (e.number == n) refl

  module _ (new : Plan) (items : new.entries.items ≡ old.entries.items ++ e ∷ []) (firsts : new.firsts ≡ mid.firsts) (blocks : new.blocks ≡ mid.blocks) where
    pub knows_more : KnowsFirsts new new.entries.items
    knows_more n = ap (λ (f : BTreeMap ℕ ℕ). btree.get nat_cmp f n) firsts ∙ firsts_more n ∙ ap (place_of n) (sym items)

    module _ (limit : ℕ) (t : Tree) (ok : IsSound limit t) (is : IsEntry t e) (below : e.path ≢ []) (visited : ℕ) (h : HasMet t old visited) where
      -- a path of the node was met
      met_before : (i : ℕ) → btree.get nat_cmp old.firsts e.number ≡ Some i → HasMet t new visited
      met_before i at = record {
        met = h.met;
        are_met = record { some = h.are_met.some; which = λ n. h.are_met.which n ∙ ap (λ (o : Option ℕ). n == 1 || is_some o) (same_place n) };
        count = ap (λ (f : BTreeMap ℕ ℕ). length f.entries + 1) firsts ∙ ap (λ (p : Plan). length p.firsts.entries + 1) (m.there i at) ∙ h.count;
        blocks = blocks ∙ ap (λ (p : Plan). p.blocks) (m.there i at) ∙ h.blocks;
      }
        where
          same_place : (n : ℕ) → place_of n old.entries.items ≡ place_of n new.entries.items
          same_place n = sym (known n) ∙ sym (ap (λ (p : Plan). btree.get nat_cmp p.firsts n) (m.there i at)) ∙ firsts_more n ∙ ap (place_of n) (sym items)

      not_root : e.number ≡ 1 → ⊥
      not_root one = below (ok.one_path 1 e.path [] ok.root_dir (is.number ∙ ap Some one) ok.root)

      -- none was
      met_first : btree.get nat_cmp old.firsts e.number ≡ None → (x : Thing) → get t.nodes e.number ≡ Some x → HasMet t new visited
      met_first at x there = record {
        met = insert h.met e.number x;
        are_met = record { some = some; which = which };
        count = omega (arith, ap (λ (f : BTreeMap ℕ ℕ). length f.entries) firsts, m.count at, h.count, count_more h.met e.number x absent);
        blocks = blocks ∙ m.blocks at ∙ ap (λ k. min (k + entry_blocks e) (2 ^ 64 - 1)) h.blocks
            ∙ min_more (file_blocks (entries h.met) + visited) (entry_blocks e) (2 ^ 64 - 1) ∙ ap (λ k. min k (2 ^ 64 - 1)) more;
      }
        where
          absent : get h.met e.number ≡ None
          absent = not_some (get h.met e.number)
              (h.are_met.which e.number ∙ ap (λ (b : Bool). b || is_some (place_of e.number old.entries.items)) (ne_eqb e.number 1 not_root)
              ∙ ap is_some (sym (known e.number) ∙ at))

          some : (n : ℕ) (y : Thing) → get (insert h.met e.number x) n ≡ Some y → get t.nodes n ≡ Some y
          some n y f = by (e.number == n) refl (sym (node_put h.met e.number x n) ∙ f)
            where
              by : (b : Bool) → (e.number == n) ≡ b → cond b (Some x) (get h.met n) ≡ Some y → get t.nodes n ≡ Some y
              by true same g = ap (get t.nodes) (sym (eqb-true e.number n same)) ∙ there ∙ g
              by false same g = h.are_met.some n y g

          which : (n : ℕ) → is_some (get (insert h.met e.number x) n) ≡ (n == 1 || is_some (place_of n new.entries.items))
          which n = ap is_some (node_put h.met e.number x n) ∙ by (e.number == n) refl
              ∙ ap (λ (o : Option ℕ). n == 1 || is_some o) (sym (ap (place_of n) items ∙ place_push n old.entries.items e))
            where
              by : (b : Bool) → (e.number == n) ≡ b
                  → is_some (cond b (Some x) (get h.met n)) ≡ (n == 1 || is_some (or_at (place_of n old.entries.items) (place_if b (length old.entries.items))))
              by true same = sym (ap (λ (b : Bool). n == 1 || b) (or_some (place_of n old.entries.items) (length old.entries.items)) ∙ or_true (n == 1))
              by false same = h.are_met.which n ∙ ap (λ (o : Option ℕ). n == 1 || is_some o) (sym (or_none (place_of n old.entries.items)))

          more : (file_blocks (entries h.met) + visited) + entry_blocks e ≡ file_blocks (entries (insert h.met e.number x)) + visited
          more = omega (arith, files_more h.met e.number x absent, blocks_are t e is x there)

      pub met_more : HasMet t new visited
      met_more = by (btree.get nat_cmp old.firsts e.number) refl
        where
          by : (o : Option ℕ) → btree.get nat_cmp old.firsts e.number ≡ o → HasMet t new visited
          by (Some i) at = met_before i at
          by None at = let x = ok.named e.path e.number is.number in met_first at x.0 x.1

-- an entry that says what is at its path is added
pub adds_entry : (l : Layout) (limit : ℕ) (t : Tree) → IsSound limit t → (found : Found) (old mid new : Plan) (e : Entry) → e.number ≡ found.number → e.is_dir ≡ is_dir_kind found.kind → e.size ≡ found.size
    → Meets old e mid → new.entries.items ≡ mid.entries.items ++ e ∷ [] → new.firsts ≡ mid.firsts → new.blocks ≡ mid.blocks → Adds l t e.path (StatReply found) old new
adds_entry l limit t ok found old mid new e number dir size m pushed firsts blocks = record {
  paths = ap (map (λ (x : Entry). x.path)) items ∙ map-append (λ (x : Entry). x.path) old.entries.items (e ∷ []);
  each = λ below is all. All-same (IsEntry t) new.entries.items (old.entries.items ++ e ∷ []) items (All-push (IsEntry t) old.entries.items e all (entry_is t found e number dir size is));
  firsts = λ known. knows_more old mid e m known new items firsts blocks;
  met = λ below is known visited h. met_more old mid e m known new items firsts blocks limit t ok (entry_is t found e number dir size is) below visited h;
}
  where
    items : new.entries.items ≡ old.entries.items ++ e ∷ []
    items = pushed ∙ ap (λ es. es ++ e ∷ []) (ap (λ v. v.items) m.entries)
