use Rattle.tiff_decode.proofs.script.run_call.Goals as goal

pub returns-in-FindTagUnsignedVec : goal.returns-in-FindTagUnsignedVec
returns-in-FindTagUnsignedVec g c = rw c.in-FindTagUnsignedVec.is c.numbers_in.ensures.read
