-- The number of times a source or a sink failed.
use Rattle.std.specs.Prelude.{ℕ}
use Rattle.test_lists.specs.declared.failure.Failure.{Failure}
use Rattle.test_lists.specs.declared.failure.Failure.TheVariants.{Never, Behind, Past}

abbrev pub failed : Failure → ℕ
failed Never = 0
failed (Behind calls) = 0
failed Past = 1
