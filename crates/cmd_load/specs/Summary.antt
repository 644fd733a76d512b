-- The summary of a load: what its commands come to by the tree and the room of the disk alone, whatever notices come. It is described in docs/LOADS.md.
use Rattle.std.specs.Prelude.{ℕ, ◌+◌, ◌-◌, nat_lt, if◌then◌else◌, List, [], ◌∷◌, ◌++◌, codes, decimal, Option}
use Rattle.hex.specs.Hex.{encode_lower}
use Rattle.crash_stands.specs.Bounds.{bounds_of}
use Rattle.base_types.specs.declared.layout.Layout.TheVariants.{One}
use Rattle.base_types.specs.Seal.{sha256}
use Rattle.layout_geometry.specs.Geometry.{Geometry, bitmap_blocks, data_start}
use Rattle.lang_tree.specs.declared.command.Cmd.{Cmd}
use Rattle.lang_tree.specs.declared.command.Refusal.{Refusal}
use Rattle.lang_tree.specs.declared.command.Refusal.TheVariants.{Full, TooBig}
use Rattle.lang_tree.specs.declared.command.Reply.{Reply}
use Rattle.lang_tree.specs.Conditions.{first_reason, refusal, when}
use Rattle.lang_tree.specs.Figures.{Figures, blocks, figures}
use Rattle.lang_tree.specs.Listing.{listing}
use Rattle.lang_tree.specs.Points.{is_refusal, is_sync}
use Rattle.lang_tree.specs.Step.{Session, answered, start}
use Rattle.fs_session.specs.Room.{most_weight}
use Rattle.lang_load.specs.Load.{load_commands}

-- the geometry of the disk
abbrev pub shape : Geometry
shape = record { n = 4096; j = 256; i = 256; layout = One }

-- how far a load has come: its session, what its transaction weighs, how many blocks that freed, and how many commands were refused
pub record Progress : Type 0 where
  pub session : Session
  pub weight : ℕ
  pub held : ℕ
  pub refused : ℕ

-- at first the root stands alone, and nothing is weighed, held or refused
abbrev pub at_first : Progress
at_first = record { session = start (bounds_of shape); weight = 0; held = 0; refused = 0 }

-- need, cost and blocks freed of a command
abbrev pub figures_of : Progress → Cmd → Figures
figures_of p cmd = figures (bitmap_blocks shape) p.session cmd

-- how many data blocks neither the tree has nor the transaction holds
abbrev pub blocks_left : Progress → ℕ
blocks_left p = (shape.n - data_start shape) - blocks shape.layout p.session.tree - p.held

-- why a command of these figures has no room: it needs more blocks than are left; or its cost and the weight are above the most that a transaction may weigh
abbrev pub room_refusals : Progress → Figures → List (Option Refusal)
room_refusals p f =
    when (nat_lt (blocks_left p) f.need) (Full f.need (blocks_left p))
    ∷ when (nat_lt (most_weight shape) (p.weight + f.cost)) (TooBig p.weight f.cost (most_weight shape)) ∷ []

-- why a command is refused: for the tree's own reasons, and then as it has no room
abbrev pub load_refusal : Progress → Cmd → Option Refusal
load_refusal p cmd = first_reason (refusal p.session.limit p.session.tree cmd ∷ room_refusals p (figures_of p cmd))

-- the session behind a command, and its reply: refused so, or as the tree answers it
abbrev pub answer_to : Progress → Cmd → Session × Reply
answer_to p cmd = answered p.session cmd (load_refusal p cmd)

-- behind a command that was done: a sync leaves nothing weighed or held, and any other adds its cost and what it freed
abbrev pub done_by : Progress → Cmd → Session → Progress
done_by p cmd next = record {
  session = next;
  weight = if is_sync cmd then 0 else p.weight + (figures_of p cmd).cost;
  held = if is_sync cmd then 0 else p.held + (figures_of p cmd).freed;
  refused = p.refused;
}

-- behind a command: a refused one changes nothing, and counts as refused
abbrev pub after : Progress → Cmd → Progress
after p cmd = if is_refusal (answer_to p cmd).1 then record p { refused = p.refused + 1 } else done_by p cmd (answer_to p cmd).0

-- behind all of these commands, in their order
abbrev pub after_all : Progress → List Cmd → Progress
after_all p [] = p
after_all p (cmd ∷ cmds) = after_all (after p cmd) cmds

-- the numbers of the summary: how many commands there were, how many of them were refused, how many sync points were made, and the SHA-256 of the listing of the tree at the end
pub record Totals : Type 0 where
  pub commands : ℕ
  pub refused : ℕ
  pub points : ℕ
  pub digest : List ℕ

-- those of so many commands that came so far
abbrev pub totals : ℕ → Progress → Totals
totals count p = record { commands = count; refused = p.refused; points = p.session.points; digest = sha256 (listing p.session.tree) }

-- the summary of the first `count` commands of the seed, on a disk that was just formatted
abbrev pub summary_of : ℕ → ℕ → Totals
summary_of seed count = totals count (after_all at_first (load_commands count seed))

-- its four lines
abbrev pub summary_text : Totals → List ℕ
summary_text t =
    (codes "commands " ++ (decimal t.commands ++ codes "\n"))
    ++ ((codes "refused " ++ (decimal t.refused ++ codes "\n"))
    ++ ((codes "points " ++ (decimal t.points ++ codes "\n"))
    ++ (codes "tree " ++ (encode_lower t.digest ++ codes "\n"))))
