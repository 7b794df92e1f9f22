-- What a host is told that measures, computed.
use Rattle.std.specs.Prelude.{ℕ, if◌then◌else◌, List, length, ◌==◌}
use Rattle.words.specs.Words.{Told, told}
use Rattle.token.specs.paper.Records.{mostNeed}
use Rattle.entry.specs.paper.Limits.{compiler}
use Rattle.entry.specs.paper.Measure.{needBlock, refusedBlock}
use Rattle.entry.specs.computed.Host.{granted, rejected, lacking, Verdict, verdict}

-- The last line stands for a case that cannot come, since `measureTold` lends enough.
unfoldable pub toldOf : Verdict → Told
toldOf (granted ts) = told 0 (needBlock ts)
toldOf (rejected j a) = told j (refusedBlock j a)
toldOf (lacking ts) = told 0 (needBlock ts)

-- by the verdict where as many bytes are lent as a script needs at most
unfoldable pub measureTold : List ℕ → List ℕ → Told
measureTold script block =
    let measured = toldOf (verdict compiler script (mostNeed (length script))) in
    if length block == 32 then measured else told 20 block
