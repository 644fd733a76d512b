use Rattle.crash_argument.proofs.pipe.HomeTests.{test_needs, needs_test}
use Rattle.crash_argument.proofs.pipeline.the_home_test_is_exact.Goals as goal

pub returns : goal.returns
returns c = record { needs = λ base log l p freed b x keeps k are ends. test_needs base log l keeps p k freed are ends b x; finds = λ base log l p freed b x keeps k are ends. needs_test base log l keeps p k freed are ends b x }
