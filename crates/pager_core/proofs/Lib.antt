mod Admission
mod Restoration
