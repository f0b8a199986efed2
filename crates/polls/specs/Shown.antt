-- What an NVM Subsystem Health Status Poll shows of the drive.
use Rattle.model.specs.State.{SubsystemStatus}
use Rattle.polls.specs.declared.status.SubsystemStatus as code

-- a status of the code
abbrev pub status_of : code.SubsystemStatus → SubsystemStatus
status_of s = record { functional = s.functional; reset_not_required = s.reset_not_required; sanitize_failed = s.sanitize_failed }
