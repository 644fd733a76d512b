mod Images
mod Mounts
mod Sureness
mod FormattedFound
mod MountLemmas
mod OpenLemmas
