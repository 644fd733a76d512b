-- Where the first line feed is, and what is ahead behind it.
use Rattle.std.proofs.Common.{◌≡◌, ◌<◌, ap, ◌∙◌, arith, List, ℕ, drop, length}
use Rattle.std.proofs.lemmas.List.{length-drop}
use Rattle.std.proofs.lemmas.Result.{IfOk-weaker}
use Rattle.lang_lines.specs.Reading.{ReaderState}
use Rattle.lang_lines.proofs.Feeds.{none_in, none_before, feed_there, feed_next}
use Rattle.lang_lines.proofs.reader.LineReader.take_some.Goals as goal

pub keep-requires-clause-no_feed : goal.keep-requires-clause-no_feed
keep-requires-clause-no_feed g c =
    let ahead = ap (λ (r : ReaderState). r.ahead) c.self.view_is in
    none_in c.feed_in.result c.bytes.result.now c.bytes-count.result.now c.args.self.now.ahead c.in-None.is c.feed_in.ensures.first (c.bytes.ensures ∙ ahead) (c.bytes-count.ensures ∙ ahead)

pub take_whole-requires-clause-no_feed : goal.take_whole-requires-clause-no_feed
take_whole-requires-clause-no_feed g c =
    none_before c.feed_in.result c.bytes.result.now c.args.self.now.ahead c.in-Some.at c.in-Some.is c.feed_in.ensures.first (c.bytes.ensures ∙ ap (λ (r : ReaderState). r.ahead) c.self.view_is)

pub take_whole-requires-clause-feed : goal.take_whole-requires-clause-feed
take_whole-requires-clause-feed g c =
    feed_there c.feed_in.result c.bytes.result.now c.args.self.now.ahead c.in-Some.at c.in-Some.is c.feed_in.ensures.first (c.bytes.ensures ∙ ap (λ (r : ReaderState). r.ahead) c.self.view_is)

pub keep-requires-in-Some-clause-no_feed : goal.keep-requires-in-Some-clause-no_feed
keep-requires-in-Some-clause-no_feed g c =
    none_before c.feed_in.result c.bytes.result.now c.args.self.now.ahead c.in-Some.at c.in-Some.is c.feed_in.ensures.first (c.bytes.ensures ∙ ap (λ (r : ReaderState). r.ahead) c.self.view_is)

pub take_open-requires-clause-feed : goal.take_open-requires-clause-feed
take_open-requires-clause-feed g c =
    feed_next c.keep-in-Some.new.self.ahead c.args.self.now.ahead c.in-Some.at c.in_ok-keep-in-Some.ensures.ahead
    (feed_there c.feed_in.result c.bytes.result.now c.args.self.now.ahead c.in-Some.at c.in-Some.is c.feed_in.ensures.first (c.bytes.ensures ∙ ap (λ (r : ReaderState). r.ahead) c.self.view_is))

pub returns-in_ok-keep-in-Some-clause-fewer : goal.returns-in_ok-keep-in-Some-clause-fewer
returns-in_ok-keep-in-Some-clause-fewer g c =
    let ahead = c.args.self.now.ahead in
    let came = ap (λ (l : List ℕ). length l) (c.bytes.ensures ∙ ap (λ (r : ReaderState). r.ahead) c.self.view_is) in
    let kept = c.keep-in-Some.new.self.ahead in
    let left = c.take_open.new.self.ahead in
    IfOk-weaker c.take_open.result (λ _. left ≡ drop 1 kept) (λ _. length left < length ahead)
    (λ _ passed. omega (
      arith,
      ap (λ (l : List ℕ). length l) passed,
      ap (λ (l : List ℕ). length l) c.in_ok-keep-in-Some.ensures.ahead,
      length-drop 1 kept,
      length-drop c.in-Some.at ahead,
      c.in-Some.ensures.below,
      came,
    ))
    c.take_open.ensures.ahead
