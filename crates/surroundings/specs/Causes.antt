-- Why a file isn't made or opened, as a person is told it, by the system's error.
use Rattle.std.specs.Prelude.{ℕ, List, codes}
use Rattle.std.specs.declared.io.ErrorKind.{ErrorKind}
use Rattle.std.specs.declared.io.ErrorKind.TheVariants.{AlreadyExists, NotFound}
use Rattle.std.specs.declared.io.ErrorKind.TheVariants.{PermissionDenied}

-- a file that is made anew: one that is there already stays as it is
abbrev pub making_cause : ErrorKind → List ℕ
making_cause AlreadyExists = codes "there is such a file"
making_cause NotFound = codes "there is no such folder"
making_cause PermissionDenied = codes "not permitted"
making_cause _ = codes "the system refuses it"

-- a file that is opened to be read
abbrev pub opening_cause : ErrorKind → List ℕ
opening_cause NotFound = codes "there is no such file"
opening_cause PermissionDenied = codes "not permitted"
opening_cause _ = codes "the system refuses it"
