-- The samples of an image are the numbers of what its chunks make.
use Rattle.std.proofs.Common.{◌≡◌, ℕ, ◌*◌, ◌/◌, ◌<◌, ◌≤◌, min, List, length, Ok, Err, refl, ap, sym, subst, ◌∙◌, arith}
use Rattle.std.specs.Prelude.{Result, nat_le, replicate}
use Rattle.std.proofs.lemmas.List.{length-replicate}
use Rattle.std.proofs.Math.Nat.{mul_comm, mul-le-mul_right}
use Rattle.tiff_base.specs.lemmas.Common.{bind_ok}
use Rattle.tiff_base.specs.declared.error.TiffError.{TiffError}
use Rattle.tiff_base.specs.Answers.{◌>>=◌}
use Rattle.tiff_page.specs.declared.layout.BufferLayoutPreference.{BufferLayoutPreference}
use Rattle.tiff_page.specs.declared.layout.DecodingSampleType.{DecodingSampleType}
use Rattle.tiff_page.specs.Layout.{LayoutRecord, planes, size_of}
use Rattle.tiff_page.specs.PixelFault.{limit_fault}
use Rattle.tiff_page.specs.Image.{Decoded, decoded_samples}
use Rattle.tiff_page.specs.Buffers.{all_planes}
use Rattle.tiff_page.specs.PixelCalls.{planes_used}
use Rattle.tiff_page.specs.Laws.{HasSides, SomeBytes}
use Rattle.tiff_page.specs.lemmas.PassedChecks.{good, ok_is}
use Rattle.tiff_decode.specs.Machine.{Decoding}
use Rattle.tiff_decode.specs.Outcome as outcome
use Rattle.tiff_laws.specs.Sides.{HasSamples}
use Rattle.tiff_laws.specs.Whole.{HasRoom, ImageIsItsChunks, IsFirstRefused, RefusedWhereChunks}
use Rattle.tiff_laws.specs.Samples.{numbers_by, image_read, planes_let, HasNumbers, AreOfChunks, ImageByBytes, BufferByBytes, SamplesOfChunks, BufferOfChunks}
use Rattle.tiff_laws.proofs.Samples.{all_or_one, used_of, some_plane, all_some}

-- the error of a step is the error of the steps after it
bad_after : {A B : Type 0} (r : Result A TiffError) (f : A → B) (e : TiffError)
    → (r >>= (λ x. good (f x))) ≡ Err e → r ≡ Err e
bad_after (Ok x) f e h = cc
bad_after (Err g) f e h = cc

-- the numbers of the bytes of some planes
module _ (some_bytes : SomeBytes) (d : Decoding) (l : LayoutRecord) (type : DecodingSampleType)
    (sides : HasSides d.state.page) (has : HasSamples d.state.page) (len used : ℕ)
    (is : HasNumbers d l type len) (bytes : len ≡ l.plane_stride * used) (some : 0 < used)
    (few : used ≤ planes d.state.page.planar l.color) where
  abbrev zeros : List ℕ
  zeros = replicate len 0

  abbrev numbers : Result Decoded TiffError
  numbers = numbers_by d (image_read d) len

  long : length zeros ≡ l.plane_stride * used
  long = length-replicate {A = ℕ} len 0 ∙ bytes

  -- the numbers are those of the bytes that are read, if there is a type and they are within the
  -- limit
  numbers_of : numbers ≡ (image_read d zeros >>= (λ bytes. good (decoded_samples type bytes)))
  numbers_of =
      ap (λ (r : Result DecodingSampleType TiffError). r
      >>= (λ type. limit_fault d.state.limits (size_of type) len >>= (λ _. image_read d zeros >>= (λ bytes. good (decoded_samples type bytes))))) is.typed
      ∙ ap (λ (r : Result (Unit {0}) TiffError). r
      >>= (λ _. image_read d zeros >>= (λ bytes. good (decoded_samples type bytes)))) is.few

  room : HasRoom d.state.page l (length zeros)
  room =
      let a : 1 * l.plane_stride ≤ used * l.plane_stride =
      mul-le-mul_right l.plane_stride (omega (arith, some)) in
      record { laid = is.laid; room = omega (arith, a, long, mul_comm l.plane_stride used) }

  used_is : planes_used d.state.page l (length zeros) ≡ used
  used_is =
      ap (λ (z : ℕ). min (planes d.state.page.planar l.color) (z / l.plane_stride)) long
      ∙ used_of (planes d.state.page.planar l.color) used l.plane_stride few
      (some_plane some_bytes d sides has l is.laid)

  module _ (image_is_its_chunks : ImageIsItsChunks) (x : Decoded) where
    pub made_of : numbers ≡ Ok x → AreOfChunks d l type len x
    made_of h =
        let a =
        bind_ok (image_read d zeros) (λ bytes. good (decoded_samples type bytes)) x
        (sym numbers_of ∙ h) in
        (a.0, ((image_is_its_chunks d l zeros a.0 sides room).0 a.1.0, ok_is (decoded_samples type a.0) x a.1.1))

    pub read_of : AreOfChunks d l type len x → numbers ≡ Ok x
    read_of m =
        numbers_of
        ∙ ap (λ (r : Result (List ℕ) TiffError). r
        >>= (λ bytes. good (decoded_samples type bytes))) ((image_is_its_chunks d l zeros m.0 sides room).1 m.1.0)
        ∙ ap good m.1.1

  module _ (refused_where_chunks : RefusedWhereChunks) (e : TiffError) where
    pub refused_of : numbers ≡ Err e → (plane k : ℕ) × IsFirstRefused d l used plane k e
    refused_of h =
        let a =
        (refused_where_chunks d l zeros e sides room).0 (bad_after (image_read d zeros) (decoded_samples type) e (sym numbers_of ∙ h)) in
        (a.0, a.1, subst (λ (n : ℕ). IsFirstRefused d l n a.0 a.1 e) used_is a.2)

    pub fault_of : (plane k : ℕ) × IsFirstRefused d l used plane k e → numbers ≡ Err e
    fault_of m =
        numbers_of
        ∙ ap (λ (r : Result (List ℕ) TiffError). r >>= (λ bytes. good (decoded_samples type bytes)))
        ((refused_where_chunks d l zeros e sides room).1 m.0 m.1 (subst (λ (n : ℕ). IsFirstRefused d l n m.0 m.1 e) (sym used_is) m.2))

module _ (some_bytes : SomeBytes) (image_is_its_chunks : ImageIsItsChunks)
    (refused_where_chunks : RefusedWhereChunks) where
  pub samples_of : ImageByBytes → SamplesOfChunks
  samples_of image_by_bytes d l type sides has is =
      let all : 0 < planes d.state.page.planar l.color =
      all_some some_bytes d sides has l is.laid in
      let len : ℕ = l.plane_stride in
      let one : len ≡ l.plane_stride * 1 = omega arith in
      let some : 0 < 1 = omega arith in
      let same : (outcome.read_image d).answer ≡ numbers_by d (image_read d) len =
      image_by_bytes d sides has ∙ ap (λ (r : Result LayoutRecord TiffError). r
      >>= (λ l. numbers_by d (image_read d) l.plane_stride)) is.laid in (
        λ x. (
          λ h. made_of some_bytes d l type sides has len 1 is one some all image_is_its_chunks x
              (sym same ∙ h),
          λ m. same ∙ read_of some_bytes d l type sides has len 1 is one some all image_is_its_chunks x m,
        ),
        λ e. (
          λ h. refused_of some_bytes d l type sides has len 1 is one some all refused_where_chunks e
              (sym same ∙ h),
          λ m. same ∙ fault_of some_bytes d l type sides has len 1 is one some all refused_where_chunks e m,
        ),
      )

  pub buffer_of : BufferByBytes → BufferOfChunks
  buffer_of buffer_by_bytes d l type sides has is =
      let all : 0 < planes d.state.page.planar l.color =
      all_some some_bytes d sides has l is.laid in
      let used : ℕ = planes_let d l in
      let len : ℕ = l.plane_stride * used in
      let a =
      all_or_one (nat_le (l.plane_stride * planes d.state.page.planar l.color) d.state.limits.decoding_buffer_size) (planes d.state.page.planar l.color) all in
      let named : LayoutRecord → Decoded → BufferLayoutPreference × Decoded =
      λ l x. (all_planes d.state.page l, x) in
      let same : (outcome.read_image_to_buffer d).answer
      ≡ (numbers_by d (image_read d) len >>= (λ x. good (named l x))) =
      buffer_by_bytes d sides has
      ∙ ap (λ (r : Result LayoutRecord TiffError). r
      >>= (λ l. numbers_by d (image_read d) (l.plane_stride * planes_let d l) >>= (λ x. good (named l x)))) is.laid in (
        λ x. (
          λ h.
              let b =
              bind_ok (numbers_by d (image_read d) len) (λ x. good (named l x)) (named l x)
              (sym same ∙ h) in
              let e : b.0 ≡ x =
              ap (λ (z : BufferLayoutPreference × Decoded). z.1) (ok_is (named l b.0) (named l x) b.1.1) in
              made_of some_bytes d l type sides has len used is refl a.0 a.1 image_is_its_chunks x
              (b.1.0 ∙ ap good e),
          λ m.
              same
              ∙ ap (λ (r : Result Decoded TiffError). r
              >>= (λ x. good (named l x))) (read_of some_bytes d l type sides has len used is refl a.0 a.1 image_is_its_chunks x m),
        ),
        λ e. (
          λ h. refused_of some_bytes d l type sides has len used is refl a.0 a.1 refused_where_chunks e (bad_after (numbers_by d (image_read d) len) (named l) e (sym same ∙ h)),
          λ m.
              same
              ∙ ap (λ (r : Result Decoded TiffError). r
              >>= (λ x. good (named l x))) (fault_of some_bytes d l type sides has len used is refl a.0 a.1 refused_where_chunks e m),
        ),
      )
