use Rattle.std.proofs.Common.{inl, inr, sym}
use Rattle.fs_commands.specs.Opened.{blocks_in}
use Rattle.fs_log.proofs.Holding.{session_of}
use Rattle.fs_log.proofs.asking.change.Goals as goal

pub returns-then-not-is_too_big-clause-changed : goal.returns-then-not-is_too_big-clause-changed
returns-then-not-is_too_big-clause-changed g c = inl (
  sym c.if-not-is_too_big.ensures,
  record {
    applies = c.ask-first.ensures.applies;
    asked = c.ask-first.ensures.asked;
    session = λ told. session_of (g.S.Blocks.state (blocks_in c.args.fs.now)) (c.requires.follows.stands told);
  },
)

pub returns-then-not-is_synced-clause-changed : goal.returns-then-not-is_synced-clause-changed
returns-then-not-is_synced-clause-changed g c = inr (inr (
  sym c.if-not-is_synced.ensures,
  record {
    first = c.ask-first.result;
    big = sym c.if-not-is_too_big.ensures;
    mid = blocks_in c.ask-first.new.fs;
    tried = record {
      applies = c.ask-first.ensures.applies;
      asked = c.ask-first.ensures.asked;
      session = λ told. session_of (g.S.Blocks.state (blocks_in c.args.fs.now)) (c.requires.follows.stands told);
    };
    ordered = record {
      applies = c.ask-ordered.ensures.applies;
      asked = c.ask-ordered.ensures.asked;
      session = λ told. session_of (g.S.Blocks.state (blocks_in c.ask-first.new.fs)) (c.ask-first.ensures.follows.stands told);
    };
  },
))

pub returns-clause-changed : goal.returns-clause-changed
returns-clause-changed g c = inr (inl (
  c.ask-ordered.result,
  blocks_in c.ask-ordered.new.fs,
  sym c.if-not-is_synced.ensures,
  record {
    first = c.ask-first.result;
    big = sym c.if-not-is_too_big.ensures;
    mid = blocks_in c.ask-first.new.fs;
    tried = record {
      applies = c.ask-first.ensures.applies;
      asked = c.ask-first.ensures.asked;
      session = λ told. session_of (g.S.Blocks.state (blocks_in c.args.fs.now)) (c.requires.follows.stands told);
    };
    ordered = record {
      applies = c.ask-ordered.ensures.applies;
      asked = c.ask-ordered.ensures.asked;
      session = λ told. session_of (g.S.Blocks.state (blocks_in c.ask-first.new.fs)) (c.ask-first.ensures.follows.stands told);
    };
  },
  record {
    applies = c.ask-second.ensures.applies;
    asked = c.ask-second.ensures.asked;
    session = λ told. session_of (g.S.Blocks.state (blocks_in c.ask-ordered.new.fs)) (c.ask-ordered.ensures.follows.stands told);
  },
))
