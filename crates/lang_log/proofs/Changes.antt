-- What the commands of a log make of its segments.
use Rattle.std.proofs.Common.{◌≡◌, ◌≢◌, ℕ, suc, ◌+◌, ◌-◌, ◌≤◌, ◌==◌, false, if◌then◌else◌, List, [], ◌∷◌, ◌++◌, length, replicate, Some, None, refl, sym, ap, ap₂, ◌∙◌, subst, arith, append-nil}
use Rattle.std.proofs.lemmas.List.{take-append-le, drop_all}
use Rattle.std.proofs.lemmas.Grind.{flat_map-append}
use Rattle.std.proofs.Common.{take_all}
use Rattle.std.specs.FinMap.{get, insert}
use Rattle.lang_tree.specs.declared.command.Cmd.TheVariants.{Write}
use Rattle.lang_tree.specs.declared.command.Reply.{Reply}
use Rattle.lang_tree.specs.declared.command.Reply.TheVariants.{Ok as Done}
use Rattle.lang_tree.specs.Tree.{Tree, Dir, File}
use Rattle.lang_tree.specs.Conditions.{refusal}
use Rattle.lang_tree.specs.Step.{Session, answered, written, changed_to, edited, edited_at, with_bytes}
use Rattle.lang_log.specs.Commands.{IsAsked, Leaves}
use Rattle.lang_log.specs.Spelling.{spelling, spellings}
use Rattle.lang_log.specs.Names.{segment_path, segment_name}
use Rattle.lang_log.specs.Segments.{Segment, HasSegments, LiesIn, grown}
use Rattle.lang_log.proofs.Maps.{node_here, node_other}
use Rattle.lang_log.proofs.Walks.{write_free}
use Rattle.lang_log.proofs.Rows.{last_lies, with_last, last_named, last_apart}

-- bytes behind all that there are
written_behind : (xs ys : List ℕ) → written (length xs) ys xs ≡ xs ++ ys
written_behind xs ys =
    ap₂ (λ front back. front ++ (ys ++ back))
    (take-append-le (length xs) xs (replicate (length xs - length xs) 0) (omega arith) ∙ take_all (length xs) xs (omega arith))
    (drop_all (length xs + length ys) xs (omega arith))
    ∙ ap (λ back. xs ++ back) (append-nil ys)

some_bytes : (n : ℕ) → (suc (suc (suc (suc n))) == 0) ≡ false
some_bytes n = grind arith

-- a directory is no file
dir_apart : (t : Tree) (k n : ℕ) (bytes : List ℕ) → get t.nodes k ≡ Some Dir → get t.nodes n ≡ Some (File bytes) → k ≢ n
dir_apart t k n bytes dir file e = let same : get t.nodes k ≡ get t.nodes n = ap (get t.nodes) e in cc

-- the tree after a change of the bytes of the file at a path
edited_is : (t : Tree) (p : List (List ℕ)) (n : ℕ) (xs ys : List ℕ) (change : List ℕ → List ℕ) → get t.names p ≡ Some n
    → get t.nodes n ≡ Some (File xs) → change xs ≡ ys
    → edited t p change ≡ record t { nodes = insert t.nodes n (File ys) }
edited_is t p n xs ys change at file is =
    ap (edited_at t change) at
    ∙ ap (λ x. record t { nodes = with_bytes t.nodes n change x }) file
    ∙ ap (λ ys. record t { nodes = insert t.nodes n (File ys) }) is

-- the last segment has one append more
module _ (t : Tree) (before : List Segment) (s : Segment) (bytes : List ℕ) (h : HasSegments t (before ++ s ∷ [])) where
  abbrev longer : Segment
  longer = grown bytes s

  lies : LiesIn t s
  lies = last_lies t before s h.there

  abbrev after : Tree
  after = record t { nodes = insert t.nodes s.node (File (spellings s.appends ++ spelling bytes)) }

  spelled : spellings longer.appends ≡ spellings s.appends ++ spelling bytes
  spelled = flat_map-append spelling s.appends (bytes ∷ []) ∙ ap (λ back. spellings s.appends ++ back) (append-nil (spelling bytes))

  pub grown_has : HasSegments after (before ++ longer ∷ [])
  grown_has = record {
    directory = λ n at. node_other t.nodes s.node _ n (dir_apart t n s.node _ (h.directory n at) lies.file) ∙ h.directory n at;
    there = with_last t after before s longer (λ q apart lies. record { at = lies.at; file = node_other t.nodes s.node _ q.node (λ e. apart (sym e)) ∙ lies.file })
        (record { at = lies.at; file = node_here t.nodes s.node _ ∙ ap (λ xs. Some (File xs)) (sym spelled) }) h.apart h.there;
    only = λ name n at. last_named before s longer name refl (h.only name n at);
    apart = last_apart before s longer refl h.apart;
  }

pub append_step : (before : List Segment) (s : Segment) (bytes : List ℕ) (old new : Session) (reply : Reply)
    → length (spellings s.appends) + length (spelling bytes) ≤ 1073741824
    → IsAsked (before ++ s ∷ []) old (Write (segment_path s.first) (length (spellings s.appends)) (spelling bytes)) new reply
    → Leaves (before ++ grown bytes s ∷ []) new reply
append_step before s bytes old new reply fits asked = record {
  done = ap (λ x. x.1) done;
  changed = ap (λ x. x.0.changed) done;
  has = subst (λ t. HasSegments t (before ++ grown bytes s ∷ [])) (sym (ap (λ x. x.0.tree) done)) (grown_has old.tree before s bytes asked.had);
}
  where
    path : List (List ℕ)
    path = segment_path s.first

    size : ℕ
    size = length (spellings s.appends)

    l : LiesIn old.tree s
    l = last_lies old.tree before s asked.had.there

    accepts : refusal old.limit old.tree (Write path size (spelling bytes)) ≡ None
    accepts =
        write_free old.limit.nodes old.tree asked.sound (segment_name s.first) s.node (spellings s.appends) l.at l.file size (length (spelling bytes)) fits

    tree_is : edited old.tree path (written size (spelling bytes)) ≡ after old.tree before s bytes asked.had
    tree_is =
        edited_is old.tree path s.node (spellings s.appends) (spellings s.appends ++ spelling bytes) _ l.at l.file
        (written_behind (spellings s.appends) (spelling bytes))

    done : (new, reply) ≡ changed_to old (after old.tree before s bytes asked.had)
    done = sym asked.answered ∙ ap (answered old (Write path size (spelling bytes))) accepts
        ∙ ap (λ b. if b then (old, Done) else changed_to old (edited old.tree path (written size (spelling bytes)))) (some_bytes (length bytes))
        ∙ ap (changed_to old) tree_is
