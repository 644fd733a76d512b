-- What is read of numbered files over a map of blocks, and that of a draft, which looks leave as it is. It is described in docs/FILES.md.
use Rattle.std.proofs.Common.{◌≡◌, ℕ, Bool, IsTrue, List, sym, subst, ap₂}
use Rattle.base_types.specs.Seal.{Blocks}
use Rattle.crash_stands.specs.Files.{Files, files_of}
use Rattle.engine_blocks.specs.State.{Bookkeeping, State}
use Rattle.fs_files.specs.Calls.{files_in, places_in, places_of}
use Rattle.fs_files.specs.Drafts.{DraftState, drafted}
use Rattle.fs_files.specs.Effects.{LooksOnly}
use Rattle.fs_files.specs.Sound.{FitsBooks, IsDraftOf, IsSoundDraft}

-- the nodes that are read: the files, and the blocks of each node, in order
pub record NodeMap : Type 0 where
  pub files : Files
  pub places : ℕ → List ℕ

-- the nodes as a draft has them
abbrev pub nodes_in : State → DraftState → NodeMap
nodes_in s d = record { files = files_in s d; places = places_in s d }

-- Lemmas on looks at a draft, that crates above cite too.

module _ (tells failed : Bool) (s t : State) (d : DraftState) (looks : LooksOnly tells failed s t) where
  -- the nodes are as before
  pub same_nodes : IsTrue tells → nodes_in t d ≡ nodes_in s d
  same_nodes told = ap₂ (λ (b : Bookkeeping) (m : Blocks). record { files = files_of b.geom (drafted d m); places = places_of b.geom (drafted d m) }) looks.books (looks.map told)

  -- and the draft is one of the blocks still
  pub draft_stays : IsDraftOf tells s d → IsDraftOf tells t d
  draft_stays h = record {
    fits = subst (λ b. FitsBooks b d) (sym looks.books) h.fits;
    sound = λ told. subst (λ b. IsSoundDraft b t.map d) (sym looks.books) (subst (λ m. IsSoundDraft s.books m d) (sym (looks.map told)) (h.sound told));
    content = h.content;
  }
