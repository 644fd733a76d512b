-- A log as it is opened: what is kept in memory of it, and what is known of it where nothing was done since the mount.
use Rattle.std.proofs.Common.{◌≡◌, ℕ, ◌≤◌, [], ◌∷◌, List, map, refl, sym, ◌∙◌, ap, ap₂, subst, inl}
use Rattle.std.specs.FinMap.{get}
use Rattle.base_types.specs.Seal.{Blocks}
use Rattle.layout_geometry.specs.Geometry.{Geometry}
use Rattle.lang_tree.specs.Step.{Session}
use Rattle.lang_tree.specs.Tree.{Tree}
use Rattle.lang_log.specs.History.{opened_with}
use Rattle.lang_log.specs.Log.{IsLogOf, IsMadeOf, Log, nothing_logged}
use Rattle.lang_log.specs.Names.{log_path}
use Rattle.lang_log.specs.Segments.{HasSegments}
use Rattle.crash_stands.specs.Stands.{IsTreeOf}
use Rattle.engine_blocks.specs.Crashes.{HasMapOfPoint}
use Rattle.engine_blocks.specs.State.{State}
use Rattle.fs_session.specs.Points.{KnowsPoints}
use Rattle.fs_session.specs.Sessions.{IsSession}
use Rattle.fs_log.specs.Finding.{HasDirectory, HasFound}
use Rattle.fs_log.specs.Keeping.{HoldsLog, Keeps}
use Rattle.fs_log.specs.Open.{Mirrors, first_or}
use Rattle.fs_log.specs.Opening.{HasRange, StandsAsMounted}
use Rattle.fs_log.proofs.Mirroring.{begins}

abbrev OneTree : Type 0
OneTree = (g : Geometry) (m : Blocks) (t u : Tree) → IsTreeOf g m t → IsTreeOf g m u → t ≡ u

-- what was found of the tree for which the blocks stand is that of the blocks
pub mirrors_found : OneTree → (s : State) (f : Session) (numbers : List ℕ) (bytes behind : ℕ) → IsSession s f → HasDirectory f.tree → HasFound f.tree numbers bytes behind → Mirrors s numbers bytes behind
mirrors_found one s f numbers bytes behind session directory found = record {
  segments = found.segments;
  log = found.log;
  holds = record {
    stands = (f.tree, session.tree);
    there = λ t is. (directory.0, ap (λ (u : Tree). get u.names log_path) (one s.books.geom s.map t f.tree is session.tree) ∙ directory.1);
    has = λ t is. subst (λ (u : Tree). HasSegments u found.segments) (sym (one s.books.geom s.map t f.tree is session.tree)) found.has;
    made = found.made;
  };
  firsts_are = found.firsts;
  size_is = found.size;
  next_is = found.next;
}

pub mirrors_nothing : (s : State) (numbers : List ℕ) (bytes behind : ℕ) → numbers ≡ [] → bytes ≡ 0 → behind ≡ 0 → HoldsLog [] nothing_logged s → Mirrors s numbers bytes behind
mirrors_nothing s numbers bytes behind none empty first holds = record {
  segments = [];
  log = nothing_logged;
  holds = holds;
  firsts_are = none;
  size_is = empty;
  next_is = first;
}

pub range_found : (t : Tree) (numbers : List ℕ) (bytes behind : ℕ) → HasFound t numbers bytes behind → HasRange t (first_or numbers behind) behind
range_found t numbers bytes behind found = record {
  log = found.log;
  is = record { segments = found.segments; has = found.has; made = found.made };
  low = ap₂ first_or found.firsts found.next ∙ begins found.segments found.log found.made;
  next = found.next;
}

pub range_nothing : (t : Tree) (numbers : List ℕ) (behind : ℕ) → numbers ≡ [] → behind ≡ 0 → HasSegments t [] → IsMadeOf [] nothing_logged → HasRange t (first_or numbers behind) behind
range_nothing t numbers behind none first has made = record {
  log = nothing_logged;
  is = record { segments = []; has = has; made = made };
  low = ap₂ first_or none first;
  next = first;
}

abbrev pub BeginsKnown : {S : Type 0} → (S → State) → S → Type 0
BeginsKnown state s = (trees : ℕ → Tree) → (state s).books.point ≡ 0 → HasMapOfPoint (state s) 0 → IsTreeOf (state s).books.geom (state s).map (trees 0) → KnowsPoints (state s) trees

-- blocks that stand as they were mounted keep the log of their tree
pub keeps_mounted : {S : Type 0} (state : S → State) (s : S) → OneTree → BeginsKnown state s → (t : Tree) (l : Log) → StandsAsMounted (state s) t → IsLogOf t l → Keeps (opened_with l) (state s)
keeps_mounted state s one begins t l mounted is = record {
  trees = λ p. t;
  known = begins (λ p. t) mounted.point mounted.only mounted.stands;
  left = λ p from upto. record { log = l; is = is; may = inl refl };
  last = λ going none. is;
  now = λ u stands. subst (λ (v : Tree). IsLogOf v l) (one (state s).books.geom (state s).map t u mounted.stands stands) is;
}
