-- The source of a file with more bytes behind it.
use Rattle.std.specs.Prelude.{ℕ, List}
use Rattle.tiff_append.specs.declared.source.AddedSource.{AddedSource}
use Rattle.tiff_append.specs.Added.{added_to}

-- the bytes of such a source
abbrev pub added_bytes : AddedSource → List ℕ
added_bytes s = added_to s.file.now s.at s.link.now s.more.now
