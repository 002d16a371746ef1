-- An image that was read is made of the chunks of its page.
use Rattle.std.proofs.Common.{◌≡◌, ℕ, List, Result, Ok, Err, OnOk, ap}
use Rattle.std.specs.Result.{is_ok}
use Rattle.tiff_base.specs.declared.error.TiffError.{TiffError}
use Rattle.tiff_page.specs.Laws.{HasSides}
use Rattle.tiff_decode.specs.Machine.{Decoding, Follows}
use Rattle.tiff_decode.specs.Outcome.{read_image_bytes}
use Rattle.tiff_laws.specs.Whole.{ImageIsItsChunks, ReadWhereChunks}
use Rattle.tiff_uses.specs.Chunks.{IsImageOfChunks}

module _ (read_where : ReadWhereChunks) (of_chunks : ImageIsItsChunks) (d : Decoding)
    (sides : HasSides d.state.page) (buf made : List ℕ) where
  made_of : (read_image_bytes d buf).answer ≡ Ok made → IsImageOfChunks d buf made
  made_of read =
      let w = (read_where d buf sides).0 (ap is_ok read) in
      record { layout = w.0; room = w.1.0; of_chunks = (of_chunks d w.0 buf made sides w.1.0).0 read }

  pub made_where_read : (r : Result (Unit {0}) TiffError) (new : Decoding)
      → Follows (λ _. made) (read_image_bytes d buf) r d new
      → OnOk r (IsImageOfChunks d buf made)
  made_where_read (Ok u) new h = made_of h.answer
  made_where_read (Err e) new h = tt
