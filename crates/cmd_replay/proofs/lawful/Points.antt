-- The trees of a trace's sync points are listable, and have bytes.
use Rattle.std.proofs.Common.{◌≡◌, sym, refl, ◌∙◌, subst, arith, ℕ, zero, suc, ◌≤◌, Bool, true, false, if◌then◌else◌, List, [], ◌∷◌, slice_get, Some}
use Rattle.std.specs.Prelude.{◌&&◌}
use Rattle.std.proofs.lemmas.Option.{same_Some}
use Rattle.layout_geometry.specs.Geometry.{Geometry, IsGeometry, geometry_fits}
use Rattle.lang_script.specs.Values.{IsCommand}
use Rattle.crash_stands.specs.Bounds.{bounds_of}
use Rattle.cmd_trace.specs.Contents.{Contents, Each}
use Rattle.cmd_trace_reader.specs.Traces.{IsTrace}
use Rattle.lang_tree.specs.declared.command.Cmd.{Cmd}
use Rattle.lang_tree.specs.declared.command.Reply.{Reply}
use Rattle.lang_tree.specs.Points.{Point, points_after, made_by, after_reply, is_refusal, is_sync, may_have_written}
use Rattle.lang_tree.specs.Step.{Session, start, step}
use Rattle.lang_tree.specs.Tree.{Bounds, Tree, HasSoundSnapshots, IsSound}
use Rattle.cmd_trace.specs.Shared.{each_append}
use Rattle.cmd_replay.specs.Points.{points_in}
use Rattle.cmd_replay.proofs.lawful.Changes.{AllBytes, AllNamed, start_all_bytes, start_named, step_all_bytes, step_named}

-- a tree that is all this
pub record IsTold (limit : ℕ) (t : Tree) : Type 0 where
  pub sound : IsSound limit t
  pub snapshots : HasSoundSnapshots limit t
  pub named : AllNamed t
  pub bytes : AllBytes t

each_at : {A : Type 0} (P : A → Type 0) (xs : List A) (i : ℕ) (x : A) → Each P xs → slice_get xs i ≡ Some x → P x
each_at P [] i x h e = cc e
each_at P (y ∷ xs) zero x h e = subst P (same_Some y x e) h.0
each_at P (y ∷ xs) (suc i) x h e = each_at P xs i x h.1 e

-- a session whose tree is all this, with so many numbers at most
record IsOn (limit : Bounds) (s : Session) : Type 0 where
  limited : s.limit ≡ limit
  tree : IsTold limit.nodes s.tree

module _ (sound_start : (limit : Bounds) → 1 ≤ limit.nodes → IsSound limit.nodes (start limit).tree)
    (sound_step : (s : Session) (cmd : Cmd) → IsSound s.limit.nodes s.tree → IsSound s.limit.nodes (step s cmd).0.tree)
    (same_limit : (s : Session) (cmd : Cmd) → (step s cmd).0.limit ≡ s.limit)
    (snapshots_start : (limit : Bounds) → HasSoundSnapshots limit.nodes (start limit).tree)
    (snapshots_step : (s : Session) (cmd : Cmd) → IsSound s.limit.nodes s.tree → HasSoundSnapshots s.limit.nodes s.tree → HasSoundSnapshots s.limit.nodes (step s cmd).0.tree) (limit : Bounds) where
  after : (s : Session) (cmd : Cmd) (reply : Reply) → IsCommand cmd → IsOn limit s → IsOn limit (after_reply s cmd reply)
  after s cmd reply law h = by (is_refusal reply)
    where
      by : (b : Bool) → IsOn limit (if b then s else (step s cmd).0)
      by true = h
      by false = record {
        limited = same_limit s cmd ∙ h.limited;
        tree = record {
          sound = subst (λ (b : Bounds). IsSound b.nodes (step s cmd).0.tree) h.limited (sound_step s cmd (subst (λ (b : Bounds). IsSound b.nodes s.tree) (sym h.limited) h.tree.sound));
          snapshots = subst (λ (b : Bounds). HasSoundSnapshots b.nodes (step s cmd).0.tree) h.limited
              (snapshots_step s cmd (subst (λ (b : Bounds). IsSound b.nodes s.tree) (sym h.limited) h.tree.sound) (subst (λ (b : Bounds). HasSoundSnapshots b.nodes s.tree) (sym h.limited) h.tree.snapshots));
          named = step_named s cmd law h.tree.named;
          bytes = step_all_bytes s cmd law h.tree.bytes;
        };
      }

  made : (s : Session) (cmd : Cmd) (reply : Reply) (mark : ℕ) → IsOn limit s → Each (λ p. IsTold limit.nodes p.tree) (made_by s cmd reply mark)
  made s cmd reply mark h = elim (is_sync cmd && (s.changed && may_have_written reply)) as (λ b. Each (λ (p : Point). IsTold limit.nodes p.tree) (if b then record { tree = s.tree; begun = mark } ∷ [] else [])) [
    | true ↦ (h.tree, tt)
    | false ↦ tt
  ]

  points_are : (s : Session) (begun : ℕ) (cmds : List Cmd) (replies : List Reply) (marks : List ℕ) → Each IsCommand cmds → IsOn limit s
      → Each (λ p. IsTold limit.nodes p.tree) (points_after s begun cmds replies marks)
  points_are s begun (cmd ∷ cmds) (reply ∷ replies) (mark ∷ marks) law h =
      each_append (λ p. IsTold limit.nodes p.tree) (made_by s cmd reply begun) (points_after (after_reply s cmd reply) mark cmds replies marks)
      (made s cmd reply begun h) (points_are (after_reply s cmd reply) mark cmds replies marks law.1 (after s cmd reply law.0 h))
  points_are s begun other replies marks law h = tt

  begins : 1 ≤ limit.nodes → IsOn limit (start limit)
  begins low = record { limited = refl; tree = record { sound = sound_start limit low; snapshots = snapshots_start limit; named = start_named limit; bytes = start_all_bytes limit } }

-- each point of a trace has such a tree
pub point_is : ((limit : Bounds) → 1 ≤ limit.nodes → IsSound limit.nodes (start limit).tree)
    → ((s : Session) (cmd : Cmd) → IsSound s.limit.nodes s.tree → IsSound s.limit.nodes (step s cmd).0.tree)
    → ((s : Session) (cmd : Cmd) → (step s cmd).0.limit ≡ s.limit)
    → ((limit : Bounds) → HasSoundSnapshots limit.nodes (start limit).tree)
    → ((s : Session) (cmd : Cmd) → IsSound s.limit.nodes s.tree → HasSoundSnapshots s.limit.nodes s.tree → HasSoundSnapshots s.limit.nodes (step s cmd).0.tree)
    → ((g : Geometry) → geometry_fits g ≡ true → IsGeometry g)
    → (c : Contents) → IsTrace c → (number : ℕ) (p : Point) → slice_get (points_in c) number ≡ Some p → IsTold c.geometry.i p.tree
point_is sound_start sound_step same_limit snapshots_start snapshots_step limits c is number p at =
    let least = (limits c.geometry is.fits).least_nodes in
    let on = begins sound_start sound_step same_limit snapshots_start snapshots_step (bounds_of c.geometry) (omega (arith, least)) in
    each_at (λ p. IsTold c.geometry.i p.tree) (points_in c) number p
    (on.tree, points_are sound_start sound_step same_limit snapshots_start snapshots_step (bounds_of c.geometry) (start (bounds_of c.geometry)) c.mounted c.cmds c.replies c.marks is.lawful.cmds on) at
